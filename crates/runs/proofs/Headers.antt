-- What a checked header holds.
use Rattle.std.proofs.Common.{◌≡◌, ℕ, ◌≤◌, Bool, true, false, cond, eqb, leb, List, length, Some, None, Ok, Err, Option, Result, sym, refl, subst}
use Rattle.std.proofs.lemmas.Bool.{leb-true, and_parts}
use Rattle.codes.specs.Codes.{coded, packet_types, packet_code}
use Rattle.codes.specs.Refusals.{Returned, alone, placed}
use Rattle.codes.specs.declared.packet.PacketType.{PacketType}
use Rattle.codes.specs.declared.packet.PacketType.TheVariants.{Messages, Heartbeat}
use Rattle.messages.specs.Wire.{byte, be16, be32}
use Rattle.feed.specs.Packets.{good_length, good_number, good_body, headed, numbered, bodied, header_verdict, packet_verdict}
use Rattle.feed.specs.declared.packet.Header.{Header}

abbrev Good : ℕ → Result Header Returned → Type 0
Good subscription (Ok h) = (h.subscription ≡ subscription) × (h.number ≤ 4294967294)
Good subscription (Err r) = Unit {0}

in_range_lem : (kind : PacketType) (number : ℕ) → good_number kind number ≡ true → number ≤ 4294967294
in_range_lem Messages number e = leb-true number 4294967294 (and_parts (leb 1 number) (leb number 4294967294) e).1
in_range_lem Heartbeat number e = leb-true number 4294967294 e

good_where : (subscription : ℕ) (test : Bool) (r : Result Header Returned) (e : Returned) → (test ≡ true → Good subscription r) → Good subscription (cond test r (Err e))
good_where subscription true r e good = good refl
good_where subscription false r e good = tt

good_numbered : (subscription number : ℕ) (kind : Option PacketType) → Good subscription (numbered subscription number kind)
good_numbered subscription number None = tt
good_numbered subscription number (Some kind) = good_where subscription (good_number kind number) (Ok (headed kind subscription number)) (alone 4) (λ e. (refl, in_range_lem kind number e))

good_bodied : (subscription len : ℕ) (r : Result Header Returned) → Good subscription r → Good subscription (bodied len r)
good_bodied subscription len (Err e) g = tt
good_bodied subscription len (Ok h) g = good_where subscription (good_body h.kind len) (Ok h) (placed 5 8) (λ e. g)

good_header : (subscription : ℕ) (bytes : List ℕ) → Good subscription (header_verdict subscription bytes)
unfolding header_verdict
good_header subscription bytes =
    let numbered_header = numbered subscription (be32 bytes 4) (coded packet_code packet_types (byte bytes 2)) in
    good_where subscription (good_length (be16 bytes 0) (length bytes)) (cond (eqb (byte bytes 3) subscription) numbered_header (Err (alone 2))) (alone 1)
    (λ e. good_where subscription (eqb (byte bytes 3) subscription) numbered_header (alone 2) (λ f. good_numbered subscription (be32 bytes 4) (coded packet_code packet_types (byte bytes 2))))

good_packet : (subscription : ℕ) (bytes : List ℕ) → Good subscription (packet_verdict subscription bytes)
unfolding packet_verdict
good_packet subscription bytes = good_bodied subscription (length bytes) (header_verdict subscription bytes) (good_header subscription bytes)

pub read_header : (subscription : ℕ) (bytes : List ℕ) (h : Header) → Ok h ≡ packet_verdict subscription bytes → (h.subscription ≡ subscription) × (h.number ≤ 4294967294)
read_header subscription bytes h e = subst (Good subscription) (sym e) (good_packet subscription bytes)
