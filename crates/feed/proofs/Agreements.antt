-- Packets are read as what they are laid out as.
use Rattle.std.proofs.Common.{◌≡◌, ℕ, ◌+◌, ◌<◌, ◌≤◌, Bool, true, false, cond, ◌&&◌, eqb, leb, List, [], ◌∷◌, ◌++◌, length, drop, Some, None, Ok, Err, Option, Result, sym, refl, ap, ◌∙◌, subst, arith, length-append, length-drop}
use Rattle.std.proofs.lemmas.List.{drop_at}
use Rattle.std.proofs.lemmas.Bool.{cond-true, leb-true, ltb-true, eqb-true, le-leb, lt-ltb, eq-eqb, and_parts, and_from}
use Rattle.feed.specs.Agreement.{PacketsAgree, HeartbeatsAgree}
use Rattle.codes.specs.Codes.{coded, packet_code, packet_types}
use Rattle.messages.specs.Content.{Content, size}
use Rattle.feed.specs.Items.{good, item_then, items, goods}
use Rattle.messages.specs.Layout.{Begins}
use Rattle.feed.specs.Layout.{LaidMessages, none, more, PacketHeader}
use Rattle.feed.specs.Packets.{good_length, good_number, good_body, headed, numbered, bodied, header_verdict, packet_verdict}
use Rattle.codes.specs.Refusals.{Returned, alone, placed}
use Rattle.messages.specs.Verdict.{verdict}
use Rattle.messages.specs.Wire.{byte, be16, be32}
use Rattle.feed.specs.declared.packet.Header.{Header}
use Rattle.codes.specs.declared.packet.PacketType.{PacketType}
use Rattle.codes.specs.declared.packet.PacketType.TheVariants.{Messages, Heartbeat}
use Rattle.codes.proofs.Cases.{coded_is}
use Rattle.messages.proofs.Judgements.{verdict_laid}
use Rattle.messages.proofs.Layouts.{number_passes}
use Rattle.messages.proofs.Readings.{number_from}
use Rattle.feed.proofs.Steps.{some_size, laid_size, items_then, items_none, items_good, items_refused}

pub laid_items : (subscription offset : ℕ) {bytes : List ℕ} {cs : List Content} → LaidMessages subscription bytes cs → items subscription offset bytes ≡ goods offset cs
laid_items subscription offset none = items_none subscription offset [] refl
laid_items subscription offset (more own rest {c = c} {cs = cs} h hs) =
    let long = laid_size subscription own c h in
    let read = (verdict_laid subscription offset (own ++ rest) c).1 record { own = own; rest = rest; joined = refl; laid = h } in
    items_good subscription offset (own ++ rest) c (omega (arith, length-append own rest, some_size c)) read
    ∙ ap (λ l. good offset c ∷ items subscription (offset + size c) l) (drop_at own rest (size c) long)
    ∙ ap (λ l. good offset c ∷ l) (laid_items subscription (offset + size c) hs)

pub some_bytes : {subscription : ℕ} {bytes : List ℕ} {cs : List Content} → LaidMessages subscription bytes cs → 1 ≤ length cs → 0 < length bytes
some_bytes none l = absurd (omega arith)
some_bytes {subscription} (more own rest {c = c} h hs) l = omega (arith, length-append own rest, laid_size subscription own c h, some_size c)

-- bytes that are left give an item
some_item : (subscription offset : ℕ) (bytes : List ℕ) → 0 < length bytes → items subscription offset bytes ≡ [] → ⊥
some_item subscription offset bytes some h = by (verdict subscription offset bytes) (sym (items_then subscription offset bytes some) ∙ h)
  where
    by : (v : Result Content Returned) → item_then offset v (λ c. items subscription (offset + size c) (drop (size c) bytes)) ≡ [] → ⊥
    by (Ok c) e = let z : ◌≡◌ {A = ℕ} 0 1 = cc in omega arith
    by (Err r) e = let z : ◌≡◌ {A = ℕ} 0 1 = cc in omega arith

pub items_laid : (subscription offset : ℕ) (cs : List Content) (bytes : List ℕ) → items subscription offset bytes ≡ goods offset cs → LaidMessages subscription bytes cs
items_laid subscription offset [] [] e = none
items_laid subscription offset [] (b ∷ bs) e = absurd (some_item subscription offset (b ∷ bs) (omega arith) e)
items_laid subscription offset (c ∷ cs) [] e = let n = items_none subscription offset [] refl in let z : ◌≡◌ {A = ℕ} 0 1 = cc in absurd (omega arith)
items_laid subscription offset (c ∷ cs) (b ∷ bs) e = by (verdict subscription offset (b ∷ bs)) refl (λ rest h. items_laid subscription (offset + size c) cs rest h)
  where
    by : (v : Result Content Returned) → verdict subscription offset (b ∷ bs) ≡ v → ((rest : List ℕ) → items subscription (offset + size c) rest ≡ goods (offset + size c) cs → LaidMessages subscription rest cs) → LaidMessages subscription (b ∷ bs) (c ∷ cs)
    by (Err r) f later = let s = items_refused subscription offset (b ∷ bs) r (omega arith) f in let z : ◌≡◌ {A = ℕ} 0 1 = cc in absurd (omega arith)
    by (Ok d) f later =
        let s = items_good subscription offset (b ∷ bs) d (omega arith) f in
        let same : d ≡ c = cc in
        let read : verdict subscription offset (b ∷ bs) ≡ Ok c = f ∙ ap Ok same in
        let left : items subscription (offset + size c) (drop (size c) (b ∷ bs)) ≡ goods (offset + size c) cs = cc in
        after ((verdict_laid subscription offset (b ∷ bs) c).0 read) left
      where
        after : Begins subscription (b ∷ bs) c → items subscription (offset + size c) (drop (size c) (b ∷ bs)) ≡ goods (offset + size c) cs → LaidMessages subscription (b ∷ bs) (c ∷ cs)
        after begins left =
            let rest = ap (drop (size c)) begins.joined ∙ drop_at begins.own begins.rest (size c) (laid_size subscription begins.own c begins.laid) in
            subst (λ l. LaidMessages subscription l (c ∷ cs)) (sym begins.joined) (more begins.own begins.rest begins.laid (later begins.rest (ap (items subscription (offset + size c)) (sym rest) ∙ left)))

-- the header, of either type
module _ (subscription : ℕ) (bytes : List ℕ) (kind : PacketType) (number : ℕ) where
  laid_headed : PacketHeader (packet_code kind) subscription number bytes → good_number kind number ≡ true → header_verdict subscription bytes ≡ Ok (headed kind subscription number)
  unfolding header_verdict
  laid_headed h n =
      cond-true _ _ _ (and_from _ _ (and_from _ _ (le-leb _ _ h.shortest) (le-leb _ _ h.longest)) (eq-eqb _ _ h.length_field))
      ∙ cond-true _ _ _ (eq-eqb _ _ h.subscription_field)
      ∙ ap (λ t. numbered subscription (be32 bytes 4) (coded packet_code packet_types t)) h.type_field
      ∙ ap (λ n. numbered subscription n (coded packet_code packet_types (packet_code kind))) h.number_field
      ∙ by kind n
    where
      by : (k : PacketType) → good_number k number ≡ true → numbered subscription number (coded packet_code packet_types (packet_code k)) ≡ Ok (headed k subscription number)
      by Messages n = cond-true _ _ _ n
      by Heartbeat n = cond-true _ _ _ n

  headed_laid : header_verdict subscription bytes ≡ Ok (headed kind subscription number) → PacketHeader (packet_code kind) subscription number bytes × (good_number kind number ≡ true)
  unfolding header_verdict
  headed_laid e = by_length (good_length (be16 bytes 0) (length bytes)) (eqb (byte bytes 3) subscription) (coded packet_code packet_types (byte bytes 2)) refl refl refl e
    where
      by_number : (k : PacketType) (b : Bool) → good_number k (be32 bytes 4) ≡ b → good_length (be16 bytes 0) (length bytes) ≡ true → eqb (byte bytes 3) subscription ≡ true → coded packet_code packet_types (byte bytes 2) ≡ Some k → cond b (Ok (headed k subscription (be32 bytes 4))) (Err (alone 4)) ≡ Ok (headed kind subscription number) → PacketHeader (packet_code kind) subscription number bytes × (good_number kind number ≡ true)
      by_number k false n l s t e = let z : ◌≡◌ {A = ℕ} 0 1 = cc in absurd (omega arith)
      by_number k true n l s t e =
          let h : headed k subscription (be32 bytes 4) ≡ headed kind subscription number = cc in
          let same : k ≡ kind = ap (λ h. h.kind) h in
          let field : be32 bytes 4 ≡ number = ap (λ h. h.number) h in
          let a = and_parts (leb 8 (length bytes) && leb (length bytes) 8192) (eqb (be16 bytes 0) (length bytes)) l in
          let b = and_parts (leb 8 (length bytes)) (leb (length bytes) 8192) a.0 in (
            record {
              shortest = leb-true _ _ b.0;
              longest = leb-true _ _ b.1;
              length_field = eqb-true _ _ a.1;
              type_field = coded_is packet_code packet_types (byte bytes 2) k t ∙ ap packet_code same;
              subscription_field = eqb-true _ _ s;
              number_field = field;
            },
            ap (λ k. good_number k number) (sym same) ∙ ap (good_number k) (sym field) ∙ n,
          )

      by_length : (l s : Bool) (o : Option PacketType) → good_length (be16 bytes 0) (length bytes) ≡ l → eqb (byte bytes 3) subscription ≡ s → coded packet_code packet_types (byte bytes 2) ≡ o → cond l (cond s (numbered subscription (be32 bytes 4) o) (Err (alone 2))) (Err (alone 1)) ≡ Ok (headed kind subscription number) → PacketHeader (packet_code kind) subscription number bytes × (good_number kind number ≡ true)
      by_length true true (Some k) l s t e = by_number k (good_number k (be32 bytes 4)) refl l s t e
      by_length true true None l s t e = let z : ◌≡◌ {A = ℕ} 0 1 = cc in absurd (omega arith)
      by_length true false o l s t e = let z : ◌≡◌ {A = ℕ} 0 1 = cc in absurd (omega arith)
      by_length false s o l f t e = let z : ◌≡◌ {A = ℕ} 0 1 = cc in absurd (omega arith)

  -- and the packet as a whole
  pub laid_packet : PacketHeader (packet_code kind) subscription number bytes → good_number kind number ≡ true → good_body kind (length bytes) ≡ true → packet_verdict subscription bytes ≡ Ok (headed kind subscription number)
  unfolding packet_verdict
  laid_packet h n b = ap (bodied (length bytes)) (laid_headed h n) ∙ cond-true _ _ _ b

  pub packet_laid : packet_verdict subscription bytes ≡ Ok (headed kind subscription number) → PacketHeader (packet_code kind) subscription number bytes × (good_number kind number ≡ true) × (good_body kind (length bytes) ≡ true)
  unfolding packet_verdict
  packet_laid e = by (header_verdict subscription bytes) refl e
    where
      by_body : (h : Header) (b : Bool) → good_body h.kind (length bytes) ≡ b → header_verdict subscription bytes ≡ Ok h → cond b (Ok h) (Err (placed 5 8)) ≡ Ok (headed kind subscription number) → PacketHeader (packet_code kind) subscription number bytes × (good_number kind number ≡ true) × (good_body kind (length bytes) ≡ true)
      by_body h true b v e =
          let same : h ≡ headed kind subscription number = cc in
          let l = headed_laid (v ∙ ap Ok same) in
          (l.0, l.1, ap (λ h. good_body h.kind (length bytes)) (sym same) ∙ b)
      by_body h false b v e = let z : ◌≡◌ {A = ℕ} 0 1 = cc in absurd (omega arith)

      by : (v : Result Header Returned) → header_verdict subscription bytes ≡ v → bodied (length bytes) v ≡ Ok (headed kind subscription number) → PacketHeader (packet_code kind) subscription number bytes × (good_number kind number ≡ true) × (good_body kind (length bytes) ≡ true)
      by (Ok h) v e = by_body h (good_body h.kind (length bytes)) refl v e
      by (Err r) v e = let z : ◌≡◌ {A = ℕ} 0 1 = cc in absurd (omega arith)

pub packets_agree : (subscription : ℕ) (bytes : List ℕ) → PacketsAgree subscription bytes (packet_verdict subscription bytes)
packets_agree subscription bytes number contents = (
  λ r. let h = packet_laid subscription bytes Messages number r.0 in
      record { header = h.0; number_good = number_from number h.1; some = some contents r.1 (ltb-true 8 (length bytes) h.2); messages = items_laid subscription 8 contents (drop 8 bytes) r.1 },
  λ l. (laid_packet subscription bytes Messages number l.header (number_passes number l.number_good) (let rest = some_bytes l.messages l.some in lt-ltb 8 (length bytes) (omega (arith, length-drop 8 bytes))), laid_items subscription 8 l.messages),
)
  where
    some : (contents : List Content) → items subscription 8 (drop 8 bytes) ≡ goods 8 contents → 8 < length bytes → 1 ≤ length contents
    some [] e big = absurd (some_item subscription 8 (drop 8 bytes) (omega (arith, length-drop 8 bytes)) e)
    some (c ∷ cs) e big = omega arith

pub heartbeats_agree : (subscription : ℕ) (bytes : List ℕ) → HeartbeatsAgree subscription bytes (packet_verdict subscription bytes)
heartbeats_agree subscription bytes number = (
  λ r. let h = packet_laid subscription bytes Heartbeat number r in
      record { header = h.0; all = eqb-true (length bytes) 8 h.2; high = leb-true number 4294967294 h.1 },
  λ l. laid_packet subscription bytes Heartbeat number l.header (le-leb number 4294967294 l.high) (eq-eqb (length bytes) 8 l.all),
)

-- what an answer that is the verdict says of the layout
module _ (subscription : ℕ) (bytes : List ℕ) (answer : Result Header Returned) (v : answer ≡ packet_verdict subscription bytes) where
  pub packets_at : PacketsAgree subscription bytes answer
  packets_at = subst (PacketsAgree subscription bytes) (sym v) (packets_agree subscription bytes)

  pub heartbeats_at : HeartbeatsAgree subscription bytes answer
  heartbeats_at = subst (HeartbeatsAgree subscription bytes) (sym v) (heartbeats_agree subscription bytes)

-- the packet's verdict from the header's
module _ (subscription : ℕ) (bytes : List ℕ) where
  pub verdict_refused : (r : Returned) → Err r ≡ header_verdict subscription bytes → Err r ≡ packet_verdict subscription bytes
  unfolding packet_verdict
  verdict_refused r e = ap (bodied (length bytes)) e

  pub verdict_body : (h : Header) (b : Bool) → Ok h ≡ header_verdict subscription bytes → b ≡ good_body h.kind (length bytes) → cond b (Ok h) (Err (placed 5 8)) ≡ packet_verdict subscription bytes
  unfolding packet_verdict
  verdict_body h b e f = ap (λ b. cond b (Ok h) (Err (placed 5 8))) f ∙ ap (bodied (length bytes)) e
