-- What stores hold has the shape that the interface asks for.
use Rattle.std.specs.Prelude.{◌≡◌, ℕ, Bool, true, false, cond, List, [], ◌∷◌, length, Some, None, Option, refl}
use Rattle.std.proofs.Common.{leb-true, eqb-true}
use Rattle.std.proofs.lemmas.Bool.{and_parts}
use Rattle.std.specs.Option.{option_or}
use Rattle.messages.specs.Wire.{byte, be16, be32}
use Rattle.replay.specs.Stores.{Shaped, carries, holding}

pub shaped_else : (number : ℕ) (a b : Option (List ℕ)) → Shaped number a → Shaped number b → Shaped number (option_or a b)
shaped_else number None b p q = q
shaped_else number (Some packet) b p q = p

-- the tests that a packet carries the number give its shape
shaped_carries : (subscription number : ℕ) (packet : List ℕ) → carries subscription number packet ≡ true → Shaped number (Some packet)
shaped_carries subscription number packet h =
    let (sized, type_on) = and_parts _ _ h in
    let (short_long, said) = and_parts _ _ sized in
    let (short, long) = and_parts _ _ short_long in
    let (type, on) = and_parts _ _ type_on in
    let (_, carried) = and_parts _ _ on in
    let (is, range) = and_parts _ _ carried in
    let (low, high) = and_parts _ _ range in (
      record { low = leb-true 1 number low; high = leb-true number 4294967294 high },
      record {
        shortest = leb-true 8 (length packet) short;
        longest = leb-true (length packet) 8192 long;
        length_field = eqb-true (be16 packet 0) (length packet) said;
        type_field = eqb-true (byte packet 2) 77 type;
        subscription_field = refl;
        number_field = eqb-true (be32 packet 4) number is;
      },
    )

shaped_if : (number : ℕ) (packet : List ℕ) (rest : Option (List ℕ)) (test : Bool) → (test ≡ true → Shaped number (Some packet)) → Shaped number rest → Shaped number (cond test (Some packet) rest)
shaped_if number packet rest true here later = here refl
shaped_if number packet rest false here later = later

pub shaped_holding : (subscription : ℕ) (packets : List (List ℕ)) (number : ℕ) → Shaped number (holding subscription packets number)
shaped_holding subscription [] number = tt
shaped_holding subscription (packet ∷ packets) number =
    shaped_if number packet _ (carries subscription number packet) (shaped_carries subscription number packet) (shaped_holding subscription packets number)
