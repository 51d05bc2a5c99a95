-- Lines that are as they are due are taken off as such.
use Rattle.verify_input.proofs.Names.{◌≡◌, ℕ, zero, suc, ◌+◌, ◌*◌, ◌≤◌, Bool, true, false, cond, List, [], ◌∷◌, ◌++◌, map, drop, length, length-append, refl, sym, ap, subst, ◌∙◌, append_assoc, arith, ◌==◌, All, concat, flat_map, join_with_byte, range_with_len, append-nil, drop_at, length-map, All-nil, All-cons, All-head, All-tail, All-append, concat-append, texel_row, Pictures, PlansData, plan_of, mark, Event, state_of, replay, endings_in, streams_of, end_of, dumps_of, event_text, journal_text, tally_of, head_text, row_text, journal_head, name_text, stream_text, mark_text, dump_text, AreDumps, AreDumpsOf, HasNumbersOfWords, whole_lines, IsLine, before, head_of, Due, Same, Dump, same_lines, lines_of_image, picture_lines, lines_of_streams, lines_of_marks, dumps_due, looks_due, images_due, streams_due, marks_due, all_dumps_due, viewers_due, dues, AreTakenOff, AreDue, viewers_in, TellsAll, What, Journal, Option, None, Some, Picture, Ending, heads, image_lines}
use Rattle.verify_input.specs.declared.what.What.TheVariants as what
use Rattle.verify_input.proofs.Events.{event_pieces}
use Rattle.verify_input.proofs.Lines.{event_joined, event_no_feed, told_lines}
use Rattle.verify_input.proofs.Wholes.{line_first}
use Rattle.verify_input.proofs.Heads.{head_line, name_line}
use Rattle.verify_input.proofs.Feeds.{image_line, row_line, stream_line, mark_line, dump_line}
use Rattle.verify_input.proofs.Labels.{Ends, Goes, IsView, image_part, stream_part, mark_part, dump_part, event_goes, images_other, others_seen, looks_seen, all_lines}
use Rattle.verify_input.proofs.Viewers.{views_in}
use Rattle.verify_input.proofs.Dues.{taken_both}
use Rattle.verify_input.proofs.Ending.{joined, parts, dues_parts}

-- the lines of a text that is lines
pub whole_concat : (lines : List (List ℕ)) → All IsLine lines → whole_lines (concat lines) ≡ lines
whole_concat [] are = refl
whole_concat (line ∷ lines) are = line_first line (concat lines) (All-head IsLine line lines are) ∙ ap (λ (ls : List (List ℕ)). line ∷ ls) (whole_concat lines (All-tail IsLine line lines are))

pub names_are : (p : PlansData) → All IsLine (heads p)
names_are p = All-cons IsLine journal_head _ head_line (all_lines IsLine (λ s. name_text s (plan_of p s).name) (λ s. name_line s (plan_of p s).name) (streams_of p))

pub heads_are : (p : PlansData) → All IsLine (head_of p)
heads_are p = by (p.version == 2)
  where
    by : (b : Bool) → All IsLine (cond b (heads p) [])
    by true = names_are p
    by false = All-nil IsLine

pub image_are : (image : ℕ) (found : Option Picture) → All IsLine (image_lines image found)
image_are image None = All-nil IsLine
image_are image (Some picture) =
    All-cons IsLine (head_text image picture.width picture.height) _ (image_line image picture.width picture.height) (all_lines IsLine (λ y. row_text (texel_row picture y)) (λ y. row_line (texel_row picture y)) _)

images_are : (images : Pictures) → All IsLine (flat_map lines_of_image images)
images_are [] = All-nil IsLine
images_are (entry ∷ images) = All-append IsLine (lines_of_image entry) (flat_map lines_of_image images) (image_are entry.0 (Some entry.1)) (images_are images)

abbrev end_at : PlansData → List Event → ℕ → List ℕ
end_at p h s = stream_text s (tally_of (state_of p h s)) (end_of h s)

pub streams_are : (p : PlansData) (h : List Event) → All IsLine (lines_of_streams p h)
streams_are p h = all_lines IsLine (end_at p h) (λ s. stream_line s (tally_of (state_of p h s)) (end_of h s)) (streams_of p)

abbrev mark_at : ℕ → Ending → List ℕ
mark_at base ending = mark_text ending (mark base ending)

pub marks_are : (p : PlansData) (base : ℕ) (h : List Event) → All IsLine (lines_of_marks p base h)
marks_are p base h = all_lines IsLine (mark_at base) (λ ending. mark_line ending (mark base ending)) (endings_in p h)

-- ---- the journal ends before the lines of the other parts

abbrev pub Stops : List (List ℕ) → Type 0
Stops [] = Unit {0}
Stops (line ∷ lines) = Ends line

before_front : (front others : List (List ℕ)) → All Goes front → Stops others → before Journal (front ++ others) ≡ front
before_front [] [] goes stops = refl
before_front [] (line ∷ others) goes stops = rw stops refl
before_front (line ∷ front) others goes stops = rw (All-head Goes line front goes) (ap (λ (ls : List (List ℕ)). line ∷ ls) (before_front front others (All-tail Goes line front goes) stops))

-- ---- the lines of a journal

pub event_lines : (events : List Event) → All HasNumbersOfWords events → All IsLine (map event_text events)
event_lines [] are = All-nil IsLine
event_lines (event ∷ events) are =
    All-cons IsLine (event_text event) (map event_text events)
    (record { line = join_with_byte 32 (event_pieces event); none = event_no_feed event (All-head HasNumbersOfWords event events are); is = event_joined event })
    (event_lines events (All-tail HasNumbersOfWords event events are))

-- the lines of the head, of a journal, and others that end it tell its events
pub tells_of : (p : PlansData) (events : List Event) (others : List (List ℕ)) → All HasNumbersOfWords events → Stops others → TellsAll p (head_of p ++ (map event_text events ++ others)) events others
tells_of p events others are stops =
    let front = map event_text events in
    let front_is : before Journal (front ++ others) ≡ front = before_front front others (all_lines Goes event_text event_goes events) stops in
    let journal : whole_lines (journal_text events) ≡ front = told_lines (journal_text events) events (record { is = refl; written = are }) in
    record {
      rest = front ++ others;
      headed = refl;
      told = front_is ∙ sym journal;
      written = are;
      left = sym (ap (λ (ls : List (List ℕ)). drop (length ls) (front ++ others)) front_is ∙ drop_at front others (length front) refl);
    }

-- ---- lines of the other parts end it

pub stops_all : (lines behind : List (List ℕ)) → All Ends lines → Stops behind → Stops (lines ++ behind)
stops_all [] behind ends stops = stops
stops_all (line ∷ lines) behind ends stops = All-head Ends line lines ends

images_stop : (images : Pictures) (behind : List (List ℕ)) → Stops behind → Stops (flat_map lines_of_image images ++ behind)
images_stop [] behind stops = stops
images_stop (entry ∷ images) behind stops = (image_part entry.0 entry.1.width entry.1.height).0

-- ---- a text of lines that are due, one after the other

-- its lines are lines of looks, or none is
pub record Offered (p : PlansData) (h : List Event) (dues : List Due) (text : List ℕ) (view : Bool) : Type 0 where
  pub own : List (List ℕ)
  pub are : text ≡ concat own
  pub lines : All IsLine own
  pub stops : (behind : List (List ℕ)) → Stops behind → Stops (own ++ behind)
  pub seen : All (IsView view) own
  pub count : length own ≡ length dues
  pub taken : (rest : List (List ℕ)) → AreTakenOff p h dues 0 (own ++ rest) 0 rest

module _ (p : PlansData) (h : List Event) where
  pub offered_none : (view : Bool) → Offered p h [] [] view
  offered_none view = record { own = []; are = refl; lines = All-nil IsLine; stops = λ behind stop. stop; seen = All-nil (IsView view); count = refl; taken = λ rest. (refl, refl) }

  pub offered_both : (xs ys : List Due) (text other : List ℕ) (view : Bool) → Offered p h xs text view → Offered p h ys other view → Offered p h (xs ++ ys) (text ++ other) view
  offered_both xs ys text other view a b = record {
    own = a.own ++ b.own;
    are = (λ i. a.are i ++ b.are i) ∙ sym (concat-append a.own b.own);
    lines = All-append IsLine a.own b.own a.lines b.lines;
    stops = λ behind stop. subst Stops (sym (append_assoc a.own b.own behind)) (a.stops (b.own ++ behind) (b.stops behind stop));
    seen = All-append (IsView view) a.own b.own a.seen b.seen;
    count = (let one = a.count in let two = b.count in omega (arith, one, two, length-append a.own b.own, length-append xs ys));
    taken = λ rest. subst (λ (ls : List (List ℕ)). AreTakenOff p h (xs ++ ys) 0 ls 0 rest) (sym (append_assoc a.own b.own rest))
        (taken_both p h xs ys 0 (a.own ++ (b.own ++ rest)) 0 (b.own ++ rest) 0 rest (a.taken (b.own ++ rest)) (b.taken rest));
  }

  pub same_offered : (part : What) (ls rest : List (List ℕ)) → AreTakenOff p h (same_lines part ls) 0 (ls ++ rest) 0 rest
  same_offered part [] rest = (refl, refl)
  same_offered part (line ∷ ls) rest = (0, (refl, refl), same_offered part ls rest)

  given_offered : (part : What) (ls : List (List ℕ)) → All IsLine ls → ((behind : List (List ℕ)) → Stops behind → Stops (ls ++ behind)) → All (IsView false) ls → Offered p h (same_lines part ls) (concat ls) false
  given_offered part ls lines stops seen = record { own = ls; are = refl; lines = lines; stops = stops; seen = seen; count = sym (length-map ls (Same part)); taken = same_offered part ls }

  -- the line of each of some items
  each_offered : {A : Type 0} (part : What) (f : A → List ℕ) → ((x : A) → IsLine (f x)) → ((x : A) → Ends (f x) × IsView false (f x)) → (xs : List A) → Offered p h (same_lines part (map f xs)) (concat (map f xs)) false
  each_offered part f line ends xs =
      given_offered part (map f xs) (all_lines IsLine f line xs) (λ behind. stops_all (map f xs) behind (all_lines Ends f (λ x. (ends x).0) xs)) (all_lines (IsView false) f (λ x. (ends x).1) xs)

  dumps_offered : (s : ℕ) (dumps : List (ℕ × ℕ)) (text : List ℕ) → AreDumps p h s dumps text → Offered p h (map (λ dump. Dump s dump) dumps) text false
  dumps_offered s [] text are = subst (λ (t : List ℕ). Offered p h [] t false) (sym are) (offered_none false)
  dumps_offered s (dump ∷ dumps) text are =
      let value = are.0 in
      let line = dump_text s dump.0 dump.1 value in
      let more = dumps_offered s dumps are.1 are.4 in
      record {
        own = line ∷ more.own;
        are = are.3 ∙ ap (λ (t : List ℕ). line ++ t) more.are;
        lines = All-cons IsLine line more.own (dump_line s dump.0 dump.1 value) more.lines;
        stops = λ behind stop. (dump_part s dump.0 dump.1 value).0;
        seen = All-cons (IsView false) line more.own (dump_part s dump.0 dump.1 value).1 more.seen;
        count = ap suc more.count;
        taken = λ rest. (0, (value, are.2, refl, refl), more.taken rest);
      }

  pub all_dumps_offered : (streams : List ℕ) (text : List ℕ) → AreDumpsOf p h streams text → Offered p h (flat_map (dumps_due p h) streams) text false
  all_dumps_offered [] text are = subst (λ (t : List ℕ). Offered p h [] t false) (sym are) (offered_none false)
  all_dumps_offered (s ∷ streams) text are =
      subst (λ (t : List ℕ). Offered p h (flat_map (dumps_due p h) (s ∷ streams)) t false) (sym are.3)
      (offered_both (dumps_due p h s) (flat_map (dumps_due p h) streams) are.0 are.1 false (dumps_offered s (dumps_of p h s) are.0 are.2) (all_dumps_offered streams are.1 are.4))

-- ---- all lines after a journal

length_looks : (v n : ℕ) → length (flat_map looks_due (range_with_len v n)) ≡ 17 * n
length_looks v zero = omega arith
length_looks v (suc n) =
    let own : length (looks_due v) ≡ 17 = refl in
    omega (arith, own, length-append (looks_due v) (flat_map looks_due (range_with_len (v + 1) n)), length_looks (v + 1) n)

module _ (p : PlansData) (base : ℕ) (h : List Event) (viewers : ℕ) (dumps views : List ℕ) (d : Offered p h (flat_map (dumps_due p h) (streams_of p)) dumps false) (v : Offered p h (flat_map looks_due (range_with_len 1 viewers)) views true) where
  -- all that is due but the looks
  abbrev front_due : List Due
  front_due = images_due p h ++ (streams_due p h ++ (marks_due p base h ++ all_dumps_due p h))

  front : Offered p h front_due (concat (picture_lines p h) ++ (concat (lines_of_streams p h) ++ (concat (lines_of_marks p base h) ++ dumps))) false
  front =
      offered_both p h _ _ _ _ false (given_offered p h what.Image (picture_lines p h) (images_are (replay p h)) (images_stop (replay p h)) (images_other (replay p h)))
      (offered_both p h _ _ _ _ false (each_offered p h what.Stream (end_at p h) (λ s. stream_line s (tally_of (state_of p h s)) (end_of h s)) (λ s. stream_part s (tally_of (state_of p h s)) (end_of h s)) (streams_of p))
      (offered_both p h _ _ _ _ false (each_offered p h what.Mark (mark_at base) (λ ending. mark_line ending (mark base ending)) (λ ending. mark_part ending (mark base ending)) (endings_in p h)) d))

  whole : front.own ++ v.own ≡ picture_lines p h ++ (lines_of_streams p h ++ (lines_of_marks p base h ++ (d.own ++ v.own)))
  unfolding front offered_both given_offered each_offered
  whole = simp append_assoc

  pub all_due : AreDue p h (dues p base h viewers) (picture_lines p h ++ (lines_of_streams p h ++ (lines_of_marks p base h ++ (d.own ++ v.own))))
  all_due =
      let looks : AreTakenOff p h (viewers_due viewers) 0 v.own 0 [] = subst (λ (ls : List (List ℕ)). AreTakenOff p h (viewers_due viewers) 0 ls 0 []) (append-nil v.own) (v.taken []) in
      let taken = taken_both p h front_due (viewers_due viewers) 0 (front.own ++ v.own) 0 v.own 0 [] (front.taken v.own) looks in
      let all : front_due ++ viewers_due viewers ≡ joined (parts p base h viewers) = simp (append_assoc, append-nil) in
      let same : front_due ++ viewers_due viewers ≡ dues p base h viewers = all ∙ sym (dues_parts p base h viewers) in
      (0, subst (λ (ls : List (List ℕ)). AreTakenOff p h (dues p base h viewers) 0 ls 0 []) whole (subst (λ (ds : List Due). AreTakenOff p h ds 0 (front.own ++ v.own) 0 []) same taken))

  pub all_are : All IsLine (picture_lines p h ++ (lines_of_streams p h ++ (lines_of_marks p base h ++ (d.own ++ v.own))))
  all_are = subst (All IsLine) whole (All-append IsLine front.own v.own front.lines v.lines)

  pub all_stop : Stops (picture_lines p h ++ (lines_of_streams p h ++ (lines_of_marks p base h ++ (d.own ++ v.own))))
  all_stop = subst Stops whole (front.stops v.own (subst Stops (append-nil v.own) (v.stops [] tt)))

  pub all_viewers : viewers ≤ 4 → viewers_in (picture_lines p h ++ (lines_of_streams p h ++ (lines_of_marks p base h ++ (d.own ++ v.own)))) ≡ viewers
  all_viewers few =
      let views : views_in (front.own ++ v.own) ≡ length v.own = others_seen front.own v.own front.seen ∙ looks_seen v.own v.seen in
      let same = ap views_in whole in
      let count = v.count in
      omega (arith, few, views, same, count, length_looks 1 viewers)
