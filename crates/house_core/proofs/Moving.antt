-- The place of the next header: a command that passed check 2 does not cross the end of the ring.
use Rattle.std.proofs.Common.{◌≡◌, ℕ, ◌+◌, ◌-◌, ◌%◌, ◌<◌, ◌≤◌, eqb, nat_lt, nat_le, Bool, true, false, cond, IsTrue, refl, arith}
use Rattle.std.proofs.lemmas.Bool.Decides.{nat_tests}
use Rattle.serial_laws.proofs.Rooms.{moved_place, round_place}
use Rattle.house_core.specs.Answers.{further}

stays_within : (ring get put size : ℕ) → get < ring → put < ring → IsTrue (nat_le size (cond (nat_lt get put) put ring - get)) → get + size ≤ ring
stays_within ring get put size low in_ring few = by (nat_lt get put) refl few
  where
    by : (b : Bool) → nat_lt get put ≡ b → IsTrue (nat_le size (cond b put ring - get)) → get + size ≤ ring
    by true e few = let lt : get < put = grind (arith, nat_tests) in let le : size ≤ put - get = grind (arith, nat_tests) in omega arith
    by false e few = let le : size ≤ ring - get = grind (arith, nat_tests) in omega arith

pub moves_further : (ring entries put size : ℕ) → 0 < ring → put < ring → IsTrue (nat_le size (cond (nat_lt (entries % ring) put) put ring - entries % ring)) → (entries + size) % ring ≡ further ring (entries % ring) size
moves_further ring entries put size pos in_ring few = by (eqb (get + size) ring) refl
  where
    get : ℕ
    get = entries % ring

    low : get < ring
    low = omega arith

    by : (b : Bool) → eqb (get + size) ring ≡ b → (entries + size) % ring ≡ cond b 0 (get + size)
    by true e = round_place entries size ring get pos refl (grind (arith, nat_tests))
    by false e = let le = stays_within ring get put size low in_ring few in moved_place entries size ring get refl (grind (arith, nat_tests))
