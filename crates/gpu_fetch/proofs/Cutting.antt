-- Commands whose words stand in one list, one after the other.
use Rattle.std.proofs.Common.{◌≡◌, ℕ, ◌+◌, ◌-◌, ◌≤◌, List, [], ◌∷◌, ◌++◌, length, take, drop, refl, ap, ◌∙◌, arith, length-append}
use Rattle.std.proofs.Math.Seq.{take-length}
use Rattle.std.proofs.lemmas.List.{take-append-le, drop-append-le, length-drop}
use Rattle.gpu_fetch.specs.declared.fetched_part.FetchedPart.{FetchedPart}
use Rattle.gpu_fetch.specs.Fetched.{FetchedData, items_since}
use Rattle.gpu_fetch.specs.Parts.{words_of_parts, parts_of}

pub words_more : (parts : List FetchedPart) (part : FetchedPart) → words_of_parts (parts ++ part ∷ []) ≡ words_of_parts parts + part.count
words_more [] part = omega arith
words_more (p ∷ ps) part = let more = words_more ps part in omega (arith, more)

none_left : (list : List (ℕ × ℕ)) → 0 ≡ length list → list ≡ []
none_left [] none = refl
none_left (word ∷ list) none = absurd (omega (arith, none))

more_behind : (list own : List (ℕ × ℕ)) (parts : List FetchedPart) (part : FetchedPart) → words_of_parts parts ≡ length list → part.count ≡ length own
    → parts_of (list ++ own) (parts ++ part ∷ []) ≡ parts_of list parts ++ record { words = own; verdict = part.verdict; facts = part.facts.value } ∷ []
more_behind list own [] part all count =
    let words : take part.count (list ++ own) ≡ own = ap (λ (l : List (ℕ × ℕ)). take part.count (l ++ own)) (none_left list all) ∙ ap (λ (n : ℕ). take n own) count ∙ take-length own in
    ap (λ (l : List (ℕ × ℕ)). record { words = l; verdict = part.verdict; facts = part.facts.value } ∷ []) words
more_behind list own (p ∷ ps) part all count =
    let within : p.count ≤ length list = omega (arith, all) in
    let left : words_of_parts ps ≡ length (drop p.count list) = (let long = length-drop p.count list in omega (arith, all, long)) in
    let first : take p.count (list ++ own) ≡ take p.count list = take-append-le p.count list own within in
    let behind : drop p.count (list ++ own) ≡ drop p.count list ++ own = drop-append-le p.count list own within in
    ap (λ (l : List (ℕ × ℕ)). record { words = l; verdict = p.verdict; facts = p.facts.value } ∷ parts_of (drop p.count (list ++ own)) (ps ++ part ∷ [])) first
    ∙ ap (λ (l : List FetchedData). record { words = take p.count list; verdict = p.verdict; facts = p.facts.value } ∷ l)
    (ap (λ (l : List (ℕ × ℕ)). parts_of l (ps ++ part ∷ [])) behind ∙ more_behind (drop p.count list) own ps part left count)

-- the words that were added to the list are those of one command more
pub parts_more : (list longer : List (ℕ × ℕ)) (parts : List FetchedPart) (part : FetchedPart) → words_of_parts parts ≡ length list → longer ≡ list ++ items_since list longer → part.count ≡ length longer - length list
    → parts_of longer (parts ++ part ∷ []) ≡ parts_of list parts ++ record { words = items_since list longer; verdict = part.verdict; facts = part.facts.value } ∷ []
parts_more list longer parts part all grows count =
    let own = items_since list longer in
    let long : length longer ≡ length list + length own = ap length grows ∙ length-append list own in
    ap (λ (l : List (ℕ × ℕ)). parts_of l (parts ++ part ∷ [])) grows ∙ more_behind list own parts part all (omega (arith, long, count))

pub words_whole : (list longer : List (ℕ × ℕ)) (parts : List FetchedPart) (part : FetchedPart) → words_of_parts parts ≡ length list → longer ≡ list ++ items_since list longer → part.count ≡ length longer - length list
    → words_of_parts (parts ++ part ∷ []) ≡ length longer
words_whole list longer parts part all grows count =
    let long : length longer ≡ length list + length (items_since list longer) = ap length grows ∙ length-append list (items_since list longer) in
    let more = words_more parts part in
    omega (arith, long, all, count, more)
