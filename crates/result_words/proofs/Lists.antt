-- Lists of what was written as they grow, and the words that hold their last values.
use Rattle.std.proofs.Common.{◌≡◌, ◌≢◌, ℕ, ◌+◌, ◌-◌, ◌<◌, ◌≤◌, ◌^◌, min, Bool, cond, List, [], ◌∷◌, ◌++◌, length, take, set, get_or, sym, ap, ◌∙◌, subst, arith, get_or-set_same, eq-eqb, ne_eqb}
use Rattle.std.proofs.lemmas.List.{take_min, take-append-le, get_or-set_other}
use Rattle.std.proofs.lemmas.List.Elements.{All-weaker, All-push}
use Rattle.std.proofs.Math.Seq.{take-length}
use mathlib.Core.Logic.{dite}
use native.Mathlib.Decide.{ℕ_discrete}
use Rattle.gpu_word.specs.Results.{Written, Write, Finish, finishes_in, last_written, WasLast, Settles}
use Rattle.gpu_word.proofs.Written.{last_of_both, finishes_of_both}
use Rattle.result_words.specs.Rule.{finishes_counted}

-- ---- lists

-- a first part of a list is a first part of a longer one
front_stays : (n : ℕ) (first second : List Written) → take (min n (length first)) (first ++ second) ≡ take n first
front_stays n first second = take-append-le (min n (length first)) first second (omega arith) ∙ take_min n first

was_last_grows : (first second : List Written) (place at_least value : ℕ) → WasLast first place at_least value → WasLast (first ++ second) place at_least value
was_last_grows first second place at_least value was =
    let same = front_stays was.length first second in record {
      length = min was.length (length first);
      enough = subst (λ (l : List Written). at_least ≤ finishes_in l) (sym same) was.enough;
      last = ap (λ (l : List Written). last_written l place) same ∙ was.last;
    }

-- the last value of the whole list was the last one in a first part
pub is_last : (written : List Written) (place at_least value : ℕ) → at_least ≤ finishes_in written → value ≡ last_written written place → WasLast written place at_least value
is_last written place at_least value enough is =
    let whole = take-length written in record {
      length = length written;
      enough = subst (λ (l : List Written). at_least ≤ finishes_in l) (sym whole) enough;
      last = ap (λ (l : List Written). last_written l place) whole ∙ sym is;
    }

-- reads stay settled while more is written
pub settles_grows : (first second : List Written) (reads : List (ℕ × ℕ × ℕ)) → Settles first reads → Settles (first ++ second) reads
settles_grows first second reads settled = All-weaker (λ (r : ℕ × ℕ × ℕ). WasLast first r.0 r.1 r.2) (λ (r : ℕ × ℕ × ℕ). WasLast (first ++ second) r.0 r.1 r.2) (λ r was. was_last_grows first second r.0 r.1 r.2 was) reads settled

-- and so they do with one read more
pub settles_push : (written : List Written) (reads : List (ℕ × ℕ × ℕ)) (read : ℕ × ℕ × ℕ) → Settles written reads → WasLast written read.0 read.1 read.2 → Settles written (reads ++ read ∷ [])
settles_push written reads read settled was = All-push (λ (r : ℕ × ℕ × ℕ). WasLast written r.0 r.1 r.2) reads read settled was

-- ---- what word 0 says

pub counted_grows : (first second : List Written) → finishes_counted first ≤ finishes_counted (first ++ second)
counted_grows first second = let sum = finishes_of_both first second in omega arith

-- a write counts no finish
pub write_counts_none : (written : List Written) (place value : ℕ) → finishes_counted written ≡ finishes_counted (written ++ Write place value ∷ [])
write_counts_none written place value = let sum = finishes_of_both written (Write place value ∷ []) in omega arith

-- a finish counts one, as far as the word goes
pub finish_counts_one : (written : List Written) → min (finishes_counted written + 1) (2 ^ 64 - 1) ≡ finishes_counted (written ++ Finish ∷ [])
finish_counts_one written = let sum = finishes_of_both written (Finish ∷ []) in omega arith

-- ---- the words of results

-- a finish changes no result
pub finish_writes_none : (written : List Written) (place : ℕ) → last_written written place ≡ last_written (written ++ Finish ∷ []) place
finish_writes_none written place = sym (last_of_both place 0 written (Finish ∷ []))

-- what holds of the value stored, and of each word before, holds of each word after
pub after_store : (P : ℕ → Type 0) (words : List ℕ) (place value i : ℕ) → 1 + place < length words → (place ≡ i → P value) → (place ≢ i → P (get_or words (1 + i) 0)) → P (get_or (set words (1 + place) value) (1 + i) 0)
after_store P words place value i within here elsewhere = dite (ℕ_discrete place i)
    (λ same. subst P (sym (ap (λ (j : ℕ). get_or (set words (1 + place) value) (1 + j) 0) (sym same) ∙ get_or-set_same words (1 + place) value 0 within)) (here same))
    (λ other. subst P (sym (get_or-set_other words (1 + place) (1 + i) value 0 (λ e. other (omega arith)))) (elsewhere other))

-- the words after a value was stored hold the last values of the longer list
pub holds_write : (words : List ℕ) (written : List Written) (place value i : ℕ) → 1 + place < length words → get_or words (1 + i) 0 ≡ last_written written i → get_or (set words (1 + place) value) (1 + i) 0 ≡ last_written (written ++ Write place value ∷ []) i
holds_write words written place value i within was =
    let longer = last_of_both i 0 written (Write place value ∷ []) in
    let chosen : Bool → ℕ = λ b. cond b value (last_written written i) in
    after_store (λ (n : ℕ). n ≡ last_written (written ++ Write place value ∷ []) i) words place value i within
    (λ same. sym (longer ∙ ap chosen (eq-eqb place i same)))
    (λ other. was ∙ sym (longer ∙ ap chosen (ne_eqb place i other)))
