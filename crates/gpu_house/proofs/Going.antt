-- Whether a run goes on after an answer, and what an open stream shuts out.
use Rattle.std.proofs.Common.{◌≡◌, Bool, true, false, not, ◌&&◌, refl, ap, ◌∙◌}
use Rattle.std.proofs.lemmas.Bool.{and_right}
use Rattle.sync_core.specs.Standing.{Standing, is_open}
use Rattle.gpu_house.specs.declared.answers.Next.{Next}
use Rattle.gpu_house.specs.declared.answers.Next.TheVariants.{More, Paused, FlushEnd, Invalid, Lost, Closed}

-- the run goes on after this answer
abbrev pub goes_further : Next → Bool
goes_further More = true
goes_further Paused = false
goes_further FlushEnd = true
goes_further (Invalid error) = false
goes_further Lost = false
goes_further Closed = false

-- what is neither of the answers to go on is one to stop
pub stops : (next : Next) → (next ≡ More → ⊥) → (next ≡ FlushEnd → ⊥) → goes_further next ≡ false
stops More not_more not_end = absurd (not_more refl)
stops Paused not_more not_end = refl
stops FlushEnd not_more not_end = absurd (not_end refl)
stops (Invalid error) not_more not_end = refl
stops Lost not_more not_end = refl
stops Closed not_more not_end = refl

pub not_lost : (x : Standing) → is_open x ≡ true → x.lost ≡ true → ⊥
not_lost x o lost = let off : is_open x ≡ false = ap (λ (b : Bool). not b && not x.closed) lost in cc

pub not_closed : (x : Standing) → is_open x ≡ true → x.closed ≡ true → ⊥
not_closed x o closed = let off : is_open x ≡ false = ap (λ (b : Bool). not x.lost && not b) closed ∙ and_right (not x.lost) false refl in cc
