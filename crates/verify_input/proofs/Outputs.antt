-- Lines that are due are the text of the output.
use Rattle.verify_input.proofs.Names.{◌≡◌, ℕ, List, [], ◌∷◌, ◌++◌, map, drop, refl, sym, ap, subst, ◌∙◌, append_assoc, concat, flat_map, range_with_len, append-nil, concat-append, PlansData, Event, streams_of, dumps_of, AreDumps, AreDumpsOf, AreDumpLines, Due, Dump, same_lines, picture_lines, lines_of_streams, lines_of_marks, dumps_due, looks_due, images_due, streams_due, marks_due, all_dumps_due, viewers_due, dues, AreTakenOff, AreDue, What}
use Rattle.verify_input.specs.declared.what.What.TheVariants as what
use Rattle.verify_input.proofs.Ending.{joined, parts, dues_parts}

module _ (p : PlansData) (h : List Event) where
  -- what is taken off by two parts is taken off by one after the other
  pub taken_parts : (xs ys : List Due) (l : ℕ) (lines : List (List ℕ)) (n : ℕ) (rest : List (List ℕ)) → AreTakenOff p h (xs ++ ys) l lines n rest
      → (m : ℕ) × (mid : List (List ℕ)) × AreTakenOff p h xs l lines m mid × AreTakenOff p h ys m mid n rest
  taken_parts [] ys l lines n rest taken = (l, lines, (refl, refl), taken)
  taken_parts (x ∷ xs) ys l [] n rest taken = absurd taken
  taken_parts (x ∷ xs) ys l (line ∷ lines) n rest taken =
      let parts = taken_parts xs ys taken.0 lines n rest taken.2 in
      (parts.0, parts.1, (taken.0, taken.1, parts.2), parts.3)

  -- lines of which each is given
  pub same_taken : (part : What) (ls : List (List ℕ)) (l : ℕ) (lines : List (List ℕ)) (n : ℕ) (rest : List (List ℕ)) → l ≡ 0 → AreTakenOff p h (same_lines part ls) l lines n rest
      → (lines ≡ ls ++ rest) × (n ≡ 0)
  same_taken part [] l lines n rest none taken = (sym taken.1, taken.0 ∙ none)
  same_taken part (own ∷ ls) l [] n rest none taken = absurd taken
  same_taken part (own ∷ ls) l (line ∷ lines) n rest none taken =
      let may = taken.1 in
      let more = same_taken part ls taken.0 lines n rest may.1 taken.2 in
      (ap (λ (first : List ℕ). first ∷ lines) may.0 ∙ ap (λ (others : List (List ℕ)). own ∷ others) more.0, more.1)

  -- the lines of dumps are a text of them
  pub dumps_taken : (s : ℕ) (dumps : List (ℕ × ℕ)) (l : ℕ) (lines : List (List ℕ)) (n : ℕ) (rest : List (List ℕ)) → l ≡ 0 → AreTakenOff p h (map (λ dump. Dump s dump) dumps) l lines n rest
      → (own : List (List ℕ)) × (lines ≡ own ++ rest) × AreDumps p h s dumps (concat own) × (n ≡ 0)
  dumps_taken s [] l lines n rest none taken = ([], sym taken.1, refl, taken.0 ∙ none)
  dumps_taken s (dump ∷ dumps) l [] n rest none taken = absurd taken
  dumps_taken s (dump ∷ dumps) l (line ∷ lines) n rest none taken =
      let may = taken.1 in
      let more = dumps_taken s dumps taken.0 lines n rest may.3 taken.2 in (
        line ∷ more.0,
        ap (λ (others : List (List ℕ)). line ∷ others) more.1,
        (may.0, concat more.0, may.1, ap (λ (first : List ℕ). first ++ concat more.0) may.2, more.2),
        more.3,
      )

  -- so are those of all streams
  pub all_dumps_taken : (streams : List ℕ) (l : ℕ) (lines : List (List ℕ)) (n : ℕ) (rest : List (List ℕ)) → l ≡ 0 → AreTakenOff p h (flat_map (dumps_due p h) streams) l lines n rest
      → (own : List (List ℕ)) × (lines ≡ own ++ rest) × AreDumpsOf p h streams (concat own) × (n ≡ 0)
  all_dumps_taken [] l lines n rest none taken = ([], sym taken.1, refl, taken.0 ∙ none)
  all_dumps_taken (s ∷ streams) l lines n rest none taken =
      let parts = taken_parts (dumps_due p h s) (flat_map (dumps_due p h) streams) l lines n rest taken in
      let first = dumps_taken s (dumps_of p h s) l lines parts.0 parts.1 none parts.2 in
      let others = all_dumps_taken streams parts.0 parts.1 n rest first.3 parts.3 in (
        first.0 ++ others.0,
        first.1 ∙ ap (λ (more : List (List ℕ)). first.0 ++ more) others.1 ∙ sym (append_assoc first.0 others.0 rest),
        (concat first.0, concat others.0, first.2, concat-append first.0 others.0, others.2),
        others.3,
      )

-- ---- all lines after a journal

-- those of each part, where all are as they are due
pub record Parted (p : PlansData) (base : ℕ) (h : List Event) (viewers : ℕ) (lines : List (List ℕ)) : Type 0 where
  pub dumps : List (List ℕ)
  pub views : List (List ℕ)
  pub last : ℕ
  pub are : lines ≡ picture_lines p h ++ (lines_of_streams p h ++ (lines_of_marks p base h ++ (dumps ++ views)))
  pub dumped : AreDumpLines p h (concat dumps)
  pub seen : AreTakenOff p h (flat_map looks_due (range_with_len 1 viewers)) 0 views last []

pub all_parted : (p : PlansData) (base : ℕ) (h : List Event) (viewers : ℕ) (lines : List (List ℕ)) → AreDue p h (dues p base h viewers) lines → Parted p base h viewers lines
all_parted p base h viewers lines due =
    let left = parts p base h viewers in
    let all : AreTakenOff p h (joined left) 0 lines due.0 [] = subst (λ (ds : List Due). AreTakenOff p h ds 0 lines due.0 []) (dues_parts p base h viewers) due.1 in
    let one = taken_parts p h (images_due p h) (joined (drop 1 left)) 0 lines due.0 [] all in
    let two = taken_parts p h (streams_due p h) (joined (drop 2 left)) one.0 one.1 due.0 [] one.3 in
    let three = taken_parts p h (marks_due p base h) (joined (drop 3 left)) two.0 two.1 due.0 [] two.3 in
    let four = taken_parts p h (all_dumps_due p h) (joined (drop 4 left)) three.0 three.1 due.0 [] three.3 in
    let looks = subst (λ (ds : List Due). AreTakenOff p h ds four.0 four.1 due.0 []) (append-nil (viewers_due viewers)) four.3 in
    let images = same_taken p h what.Image (picture_lines p h) 0 lines one.0 one.1 refl one.2 in
    let streams = same_taken p h what.Stream (lines_of_streams p h) one.0 one.1 two.0 two.1 images.1 two.2 in
    let marks = same_taken p h what.Mark (lines_of_marks p base h) two.0 two.1 three.0 three.1 streams.1 three.2 in
    let dumps = all_dumps_taken p h (streams_of p) three.0 three.1 four.0 four.1 marks.1 four.2 in
    record {
      dumps = dumps.0;
      views = four.1;
      last = due.0;
      are = images.0
          ∙ ap (λ (ls : List (List ℕ)). picture_lines p h ++ ls) (streams.0
          ∙ ap (λ (ls : List (List ℕ)). lines_of_streams p h ++ ls) (marks.0
          ∙ ap (λ (ls : List (List ℕ)). lines_of_marks p base h ++ ls) dumps.1));
      dumped = dumps.2;
      seen = subst (λ (n : ℕ). AreTakenOff p h (viewers_due viewers) n four.1 due.0 []) dumps.3 looks;
    }
