-- The parts of the output, line by line.
use Rattle.std.proofs.Common.{◌≡◌, ℕ, zero, suc, ◌+◌, ◌-◌, ◌<◌, ◌≤◌, List, [], ◌∷◌, ◌++◌, map, length, Option, Some, None, refl, sym, ap, ◌∙◌, arith}
use Rattle.std.specs.Prelude.{slice_get, slice_index_or, option_map, IsSomeAnd, IfSome, unwrap_or}
use Rattle.std.specs.List.{concat, flat_map, range_with_len}
use Rattle.std.proofs.lemmas.List.FromFn.{length-map-range_with_len, get_or-map-range_with_len}
use Rattle.std.proofs.lemmas.Option.{slice_get-get_or}
use Rattle.gpu_store.specs.Picture.{Picture, texel_row}
use Rattle.gpu_cmd.specs.declared.name.Name.{Name}
use Rattle.gpu_plan.specs.Plans.{PlansData, PlanData, plan_of, no_plan}
use Rattle.gpu_journal.specs.World.{state_of}
use Rattle.gpu_journal.specs.Ended.{streams_of, end_of}
use Rattle.gpu_journal.specs.declared.end.End.TheVariants.{Done}
use Rattle.gpu_journal.specs.declared.event.Event.{Event}
use Rattle.gpu_journal.specs.Waits.{endings_in}
use Rattle.wait_hooks.specs.Marks.{mark}
use Rattle.journal_text.specs.Text.{event_text, journal_text, tally_of, stream_text}
use Rattle.journal_text.specs.Picture.{head_text, row_text, image_text}
use Rattle.journal_text.specs.Lines.{journal_head, name_text, mark_text}
use Rattle.journal_text.specs.Output.{stream_lines, mark_lines}
use Rattle.journal_text.specs.Parts.{heads, image_lines, lines_of_streams, lines_of_marks}

-- ---- the text of each part

-- the text of each item is that of all of them
pub concat-map : {A : Type 0} (f : A → List ℕ) (xs : List A) → concat (map f xs) ≡ flat_map f xs
concat-map f [] = refl
concat-map f (x ∷ xs) = ap (λ (r : List ℕ). f x ++ r) (concat-map f xs)

pub names_text : (p : PlansData) → concat (heads p) ≡ journal_head ++ flat_map (λ s. name_text s (plan_of p s).name) (streams_of p)
names_text p = ap (λ (r : List ℕ). journal_head ++ r) (concat-map (λ (s : ℕ). name_text s (plan_of p s).name) (streams_of p))

pub events_text : (events : List Event) → concat (map event_text events) ≡ journal_text events
unfolding journal_text
events_text events = concat-map event_text events

pub image_whole : (entry : ℕ × Picture) → concat (image_lines entry.0 (Some entry.1)) ≡ image_text entry
unfolding image_text
image_whole entry = ap (λ (r : List ℕ). head_text entry.0 entry.1.width entry.1.height ++ r) (concat-map (λ (y : ℕ). row_text (texel_row entry.1 y)) (range_with_len 0 entry.1.height))

pub streams_text : (p : PlansData) (h : List Event) → concat (lines_of_streams p h) ≡ stream_lines p h
streams_text p h = concat-map (λ (s : ℕ). stream_text s (tally_of (state_of p h s)) (end_of h s)) (streams_of p)

pub marks_text : (p : PlansData) (base : ℕ) (h : List Event) → concat (lines_of_marks p base h) ≡ mark_lines p (mark base) h
marks_text p base h = concat-map (λ ending. mark_text ending (mark base ending)) (endings_in p h)

-- ---- the lines of each part

-- the line of each of n numbers from 1 on, after a first line
behind_one : (f : ℕ → List ℕ) (head : List ℕ) (n i : ℕ) → 0 < i → i ≤ n → slice_index_or (head ∷ map f (range_with_len 1 n)) i [] ≡ f i
behind_one f head n zero some within = absurd (omega arith)
behind_one f head n (suc k) some within = get_or-map-range_with_len f 1 n k (suc k) [] (omega arith) (omega arith)

-- the line of each of n numbers from 0 on, after a first line
behind_zero : (f : ℕ → List ℕ) (head : List ℕ) (n i : ℕ) → 0 < i → i ≤ n → slice_index_or (head ∷ map f (range_with_len 0 n)) i [] ≡ f (i - 1)
behind_zero f head n zero some within = absurd (omega arith)
behind_zero f head n (suc k) some within = get_or-map-range_with_len f 0 n k (suc k - 1) [] (omega arith) (omega arith)

named : (plans : List PlanData) (k : ℕ) (name : Name) → k < length plans → option_map (λ (plan : PlanData). plan.name) (slice_get plans k) ≡ Some name → (slice_index_or plans k no_plan).name ≡ name
named plans k name lt found =
    let here : Some (slice_index_or plans k no_plan).name ≡ Some name = ap (option_map (λ (plan : PlanData). plan.name)) (sym (slice_get-get_or plans k no_plan lt)) ∙ found in
    ap (λ (o : Option Name). unwrap_or o name) here

-- ---- names

pub length-heads : (p : PlansData) → length (heads p) ≡ length p.plans + 1
length-heads p = omega (arith, length-map-range_with_len (λ (s : ℕ). name_text s (plan_of p s).name) 1 (length p.plans))

pub head_at : (p : PlansData) (i : ℕ) (name : Name) → 0 < i → i ≤ length p.plans → option_map (λ (plan : PlanData). plan.name) (slice_get p.plans (i - 1)) ≡ Some name → slice_index_or (heads p) i [] ≡ name_text i name
head_at p zero name some within found = absurd (omega arith)
head_at p (suc k) name some within found =
    let less : suc k - 1 ≡ k = omega arith in
    let here : option_map (λ (plan : PlanData). plan.name) (slice_get p.plans k) ≡ Some name = rw (sym less) found in
    behind_one (λ (s : ℕ). name_text s (plan_of p s).name) journal_head (length p.plans) (suc k) some within ∙ ap (name_text (suc k)) (named p.plans k name (omega arith) here)

-- ---- streams

pub length-streams : (p : PlansData) (h : List Event) → length (lines_of_streams p h) ≡ length p.plans
length-streams p h = length-map-range_with_len (λ (s : ℕ). stream_text s (tally_of (state_of p h s)) (end_of h s)) 1 (length p.plans)

pub stream_at : (p : PlansData) (h : List Event) (i : ℕ) → i < length p.plans → slice_index_or (lines_of_streams p h) i [] ≡ stream_text (i + 1) (tally_of (state_of p h (i + 1))) (end_of h (i + 1))
stream_at p h i lt = get_or-map-range_with_len (λ (s : ℕ). stream_text s (tally_of (state_of p h s)) (end_of h s)) 1 (length p.plans) i (i + 1) [] lt (omega arith)

pub end_at : (p : PlansData) (h : List Event) (i : ℕ) → i < length p.plans → slice_index_or (map (end_of h) (streams_of p)) i Done ≡ end_of h (i + 1)
end_at p h i lt = get_or-map-range_with_len (end_of h) 1 (length p.plans) i (i + 1) Done lt (omega arith)

-- ---- images

pub height_found : (found : Option Picture) (width height : ℕ) → option_map {U = ℕ × ℕ} (λ (picture : Picture). (picture.width, picture.height)) found ≡ Some (width, height) → option_map (λ (picture : Picture). picture.height) found ≡ Some height
height_found None width height size = ap (λ (o : Option (ℕ × ℕ)). option_map (λ (pair : ℕ × ℕ). pair.1) o) size
height_found (Some picture) width height size = ap (λ (o : Option (ℕ × ℕ)). option_map (λ (pair : ℕ × ℕ). pair.1) o) size

pub length-image : (image height : ℕ) (found : Option Picture) → option_map (λ (picture : Picture). picture.height) found ≡ Some height → length (image_lines image found) ≡ height + 1
length-image image height None there = absurd (omega (arith, ap (λ (o : Option ℕ). unwrap_or o (height + 1)) there))
length-image image height (Some picture) there =
    omega (arith, length-map-range_with_len (λ (y : ℕ). row_text (texel_row picture y)) 0 picture.height, ap (λ (o : Option ℕ). unwrap_or o 0) there)

pub row_within : (height y : ℕ) (found : Option Picture) → option_map (λ (picture : Picture). picture.height) found ≡ Some height → y < height → IsSomeAnd found (λ picture. y < picture.height)
row_within height y None there lt = absurd (omega (arith, ap (λ (o : Option ℕ). unwrap_or o (height + 1)) there))
row_within height y (Some picture) there lt = omega (arith, ap (λ (o : Option ℕ). unwrap_or o 0) there)

-- the line of a row, after what is there
pub row_at : (image height i : ℕ) (found : Option Picture) (old new : List ℕ) → option_map (λ (picture : Picture). picture.height) found ≡ Some height → 0 < i → i ≤ height
    → IfSome found (λ picture. new ≡ old ++ row_text (texel_row picture (i - 1))) → new ≡ old ++ slice_index_or (image_lines image found) i []
row_at image height i None old new there some within made = absurd (omega (arith, ap (λ (o : Option ℕ). unwrap_or o (height + 1)) there))
row_at image height i (Some picture) old new there some within made =
    made
    ∙ ap (λ (line : List ℕ). old ++ line) (sym (behind_zero (λ (y : ℕ). row_text (texel_row picture y)) (head_text image picture.width picture.height) picture.height i some (omega (arith, ap (λ (o : Option ℕ). unwrap_or o 0) there))))

-- the own line of an image, after what is there
pub image_at : (image height : ℕ) (found : Option Picture) (old new : List ℕ) → option_map (λ (picture : Picture). picture.height) found ≡ Some height
    → IfSome found (λ picture. new ≡ old ++ head_text image picture.width picture.height) → new ≡ old ++ slice_index_or (image_lines image found) 0 []
image_at image height None old new there made = absurd (omega (arith, ap (λ (o : Option ℕ). unwrap_or o (height + 1)) there))
image_at image height (Some picture) old new there made = made
