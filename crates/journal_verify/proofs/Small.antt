-- What is told of a dumped place is a number of 32 bits.
use Rattle.std.proofs.Common.{◌≡◌, ℕ, ◌^◌, ◌<◌, Bool, true, false, cond, eqb, is_some, Option, Some, None, List, [], ◌∷◌, refl, sym, ap, subst, ◌∙◌}
use Rattle.std.specs.Prelude.{◌&&◌, slice_index}
use Rattle.std.proofs.lemmas.Bool.{eqb-true, and_parts}
use Rattle.journal_verify.specs.Reached.{last_of}
use Rattle.journal_verify.specs.Dumped.{DumpedData, AreSmall, last_with, is_from}
use Rattle.journal_verify.specs.Followed.{told_by}

pub small_none : (left : List ((ℕ × ℕ) × ℕ)) → left ≡ [] → AreSmall left
small_none [] none = λ place value some. absurd (cc)
small_none (entry ∷ left) none = absurd (cc)

-- one value more is kept
pub small_more : (p last finished : ℕ) (old new : List ((ℕ × ℕ) × ℕ)) → last < 2 ^ 32 → AreSmall old → ((q v : ℕ) → last_of new q v ≡ cond (eqb p q && eqb last v) (Some finished) (last_of old q v)) → AreSmall new
small_more p last finished old new lt small is = λ q v some. by q v (eqb p q && eqb last v) refl (ap (λ (o : Option ℕ). is_some o) (sym (is q v)) ∙ some)
  where
    by : (q v : ℕ) (b : Bool) → (eqb p q && eqb last v) ≡ b → is_some (cond b (Some finished) (last_of old q v)) ≡ true → v < 2 ^ 32
    by q v true same some = subst (λ (n : ℕ). n < 2 ^ 32) (eqb-true last v (and_parts (eqb p q) (eqb last v) same).1) lt
    by q v false same some = small q v some

-- a value that a place has or had
pub last_small : (d : DumpedData) (finished place : ℕ) → slice_index d.values place < 2 ^ 32 → AreSmall d.left → (value : ℕ) → is_some (last_with d finished place value) ≡ true → value < 2 ^ 32
last_small d finished place lt small value some = by (eqb (slice_index d.values place) value) refl some
  where
    by : (b : Bool) → eqb (slice_index d.values place) value ≡ b → is_some (cond b (Some finished) (last_of d.left place value)) ≡ true → value < 2 ^ 32
    by true same some = subst (λ (n : ℕ). n < 2 ^ 32) (eqb-true (slice_index d.values place) value same) lt
    by false same some = small place value some

-- the same, by what the value of the place was read to be
pub small_of : (own d : DumpedData) (finished place now : ℕ) → own ≡ d → now ≡ slice_index own.values place → now < 2 ^ 32 → AreSmall own.left → (value : ℕ) → is_some (last_with d finished place value) ≡ true → value < 2 ^ 32
small_of own d finished place now same is lt small =
    subst (λ (d : DumpedData). (value : ℕ) → is_some (last_with d finished place value) ≡ true → value < 2 ^ 32) same
    (last_small own finished place (subst (λ (n : ℕ). n < 2 ^ 32) is lt) small)

pub from_some : (least : ℕ) (last : Option ℕ) → is_from least last ≡ true → is_some last ≡ true
from_some least None from = absurd (cc)
from_some least (Some n) from = refl

-- what is told of a stream's places, and of a stream that there is not
pub told_small : (found : Option DumpedData) (own : DumpedData) (now finished place least : ℕ) → Some own ≡ found → now ≡ finished → ((value : ℕ) → is_from least (last_with own now place value) ≡ true → value < 2 ^ 32)
    → (value : ℕ) → told_by found finished place least value ≡ true → value < 2 ^ 32
told_small found own now finished place least there same small =
    subst (λ (o : Option DumpedData). (value : ℕ) → told_by o finished place least value ≡ true → value < 2 ^ 32) there
    (subst (λ (n : ℕ). (value : ℕ) → is_from least (last_with own n place value) ≡ true → value < 2 ^ 32) same small)

pub none_told : (found : Option DumpedData) (finished place least value : ℕ) → None ≡ found → told_by found finished place least value ≡ true → value < 2 ^ 32
none_told None finished place least value none told = absurd (cc)
none_told (Some own) finished place least value none told = absurd (cc)
