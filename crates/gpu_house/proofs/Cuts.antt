-- The command at an index of a batch: its words stand in the list after those of the commands before it.
use Rattle.std.proofs.Common.{◌≡◌, ℕ, zero, suc, ◌+◌, ◌-◌, ◌<◌, ◌≤◌, List, [], ◌∷◌, length, take, drop, get_or, refl, sym, ap, ◌∙◌, subst, arith, length-append}
use Rattle.std.specs.List.{All}
use Rattle.std.proofs.lemmas.List.{length-drop, length-take-le, drop-drop}
use Rattle.gpu_fetch.specs.declared.fetched_part.FetchedPart.{FetchedPart}
use Rattle.gpu_fetch.specs.Fetched.{FetchedData, IsFetched}
use Rattle.gpu_fetch.specs.Parts.{words_of_parts, parts_of}
use Rattle.gpu_house.specs.Batches.{batch_words}
use Rattle.gpu_house.proofs.Members.{parts_long}

-- it ends within the list, and what was fetched of it is cut from there
pub record IsCut (list : List (ℕ × ℕ)) (parts : List FetchedPart) (i from : ℕ) (part : FetchedPart) (member : FetchedData) : Type 0 where
  pub ends : from + part.count ≤ length list
  pub is : get_or (parts_of list parts) i member ≡ record { words = take part.count (drop from list); verdict = part.verdict; facts = part.facts.value }

pub cut_at : (list : List (ℕ × ℕ)) (parts : List FetchedPart) (i from : ℕ) (d : FetchedPart) (member : FetchedData) → i < length parts → from ≡ length (batch_words (take i (parts_of list parts))) → words_of_parts parts ≡ length list
    → IsCut list parts i from (get_or parts i d) member
cut_at list [] i from d member within at all = absurd (omega (arith, within))
cut_at list (p ∷ ps) zero from d member within at all = record {
  ends = omega (arith, at, all);
  is = ap (λ (n : ℕ). record { words = take p.count (drop n list); verdict = p.verdict; facts = p.facts.value }) (sym at);
}
cut_at list (p ∷ ps) (suc i) from d member within at all =
    let left : List (ℕ × ℕ) = drop p.count list in
    let long : length left ≡ length list - p.count = length-drop p.count list in
    let before = batch_words (take i (parts_of left ps)) in
    let first : length (take p.count list) ≡ p.count = length-take-le p.count list (omega (arith, all)) in
    let behind : from ≡ p.count + length before = at ∙ length-append (take p.count list) before ∙ ap (λ (n : ℕ). n + length before) first in
    let part = get_or ps i d in
    let rest = cut_at left ps i (length before) d member (omega (arith, within)) refl (omega (arith, all, long)) in
    record {
      ends = (let ends = rest.ends in omega (arith, ends, behind, long, all));
      is = rest.is ∙ ap (λ (l : List (ℕ × ℕ)). record { words = take part.count l; verdict = part.verdict; facts = part.facts.value }) (drop-drop (length before) p.count list ∙ ap (λ (n : ℕ). drop n list) (sym behind));
    }

-- ---- of a batch, as contracts see it

module _ (list : List (ℕ × ℕ)) (parts : List FetchedPart) (members : List FetchedData) (view : parts_of list parts ≡ members) where
  -- as many members are seen as there are parts
  pub parts_seen : length parts ≡ length members
  parts_seen = sym (parts_long list parts) ∙ ap length view

  module _ (i from : ℕ) (part : FetchedPart) (read : List (ℕ × ℕ)) (whole : words_of_parts parts ≡ length list) (within : i < length members) (at : from ≡ length (batch_words (take i members))) (is : part ≡ get_or parts i part) (same : read ≡ list) where
    cut : (member : FetchedData) → IsCut list parts i from part member
    cut member =
        let many = parts_seen in
        subst (λ (p : FetchedPart). IsCut list parts i from p member) (sym is)
        (cut_at list parts i from part member (omega (arith, within, many)) (at ∙ ap (λ (l : List FetchedData). length (batch_words (take i l))) (sym view)) whole)

    -- its words are within the list that is read
    pub cut_ends : from + part.count ≤ length read
    cut_ends = let ends = (cut record { words = []; verdict = part.verdict; facts = part.facts.value }).ends in let long = ap length same in omega (arith, ends, long)

    pub cut_read : (member : FetchedData) → get_or members i member ≡ record { words = take (from + part.count - from) (drop from read); verdict = part.verdict; facts = part.facts.value }
    cut_read member =
        let words : take part.count (drop from list) ≡ take (from + part.count - from) (drop from read) =
        ap (λ (l : List (ℕ × ℕ)). take part.count (drop from l)) (sym same) ∙ ap (λ (n : ℕ). take n (drop from read)) {x = part.count} {y = from + part.count - from} (omega arith) in
        ap (λ (l : List FetchedData). get_or l i member) (sym view) ∙ (cut member).is
        ∙ ap (λ (l : List (ℕ × ℕ)). record { words = l; verdict = part.verdict; facts = part.facts.value }) words

    pub cut_fetched : All IsFetched (parts_of list parts) → IsFetched record { words = take (from + part.count - from) (drop from read); verdict = part.verdict; facts = part.facts.value }
    cut_fetched copies =
        let member : FetchedData = record { words = []; verdict = part.verdict; facts = part.facts.value } in
        subst IsFetched (cut_read member) (subst (All IsFetched) view copies i member within)
