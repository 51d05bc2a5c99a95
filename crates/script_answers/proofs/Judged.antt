-- A whole output that is found to be right is that of a run on threads.
use Rattle.std.proofs.Common.{◌≡◌, ℕ, zero, suc, ◌+◌, ◌<◌, ◌≤◌, Bool, true, false, cond, List, [], ◌∷◌, ◌++◌, length, replicate, get_or, reverse, Option, Some, refl, sym, ap, subst, ◌∙◌, append_assoc, arith}
use Rattle.std.specs.Prelude.{◌==◌, option_map, slice_get}
use Rattle.std.specs.List.{All, concat, flat_map, range_with_len}
use Rattle.std.specs.List.Sorted.{IsNonDecreasingBy}
use Rattle.std.proofs.lemmas.List.{append-nil, reverse-reverse, length-reverse}
use Rattle.std.proofs.lemmas.List.Elements.{All-nil, All-cons}
use Rattle.std.proofs.lemmas.List.Folds.{concat-append}
use Rattle.gpu_store.specs.Images.{Pictures}
use Rattle.gpu_plan.specs.Plans.{PlansData, plan_of}
use Rattle.wait_hooks.specs.Marks.{mark}
use Rattle.gpu_journal.specs.declared.event.Event.{Event}
use Rattle.gpu_journal.specs.World.{replay}
use Rattle.gpu_journal.specs.Ended.{streams_of}
use Rattle.journal_text.specs.Text.{journal_text}
use Rattle.journal_text.specs.Picture.{image_text, picture_text}
use Rattle.journal_text.specs.Lines.{journal_head, name_text}
use Rattle.journal_text.specs.Output.{head_lines, output}
use Rattle.journal_text.specs.Parts.{heads, lines_of_streams, lines_of_marks}
use Rattle.journal_text.proofs.Parts.{names_text, image_whole, streams_text, marks_text}
use Rattle.journal_verify.specs.Followed.{sum_after}
use Rattle.verify_input.specs.Found.{head_of}
use Rattle.verify_input.specs.Due.{Look, LastLook, lines_of_image, picture_lines, looks_due, AreTakenOff, viewers_in}
use Rattle.verify_input.specs.Whole.{TellsAll, IsRightWhole}
use Rattle.verify_input.proofs.Wholly.{told_text}
use Rattle.verify_input.proofs.Outputs.{Parted, taken_parts, all_parted}
use Rattle.live_view.specs.declared.look.Look as look
use Rattle.gpu_hall.specs.Looks.{IsLookOf, AreViewerLooks}
use Rattle.run_output.specs.Parts.{look_text}
use Rattle.script_laws.proofs.Outputs.{behind_journal, output_flat}
use Rattle.script_answers.specs.Runs.{view_lines, run_ending}
use Rattle.script_answers.specs.Says.{yes_line, IsJudgedWhole}
use Rattle.script_answers.proofs.Endings.{none_lost}

-- ---- the lines of each part are its text

images_text : (images : Pictures) → concat (flat_map lines_of_image images) ≡ flat_map image_text images
images_text [] = refl
images_text (entry ∷ images) = concat-append (lines_of_image entry) (flat_map lines_of_image images) ∙ (λ i. image_whole entry i ++ images_text images i)

pub pictures_text : (images : Pictures) → concat (flat_map lines_of_image images) ≡ picture_text images
unfolding picture_text
pictures_text images = images_text images

pub heads_text : (p : PlansData) → concat (head_of p) ≡ head_lines p
heads_text p = by (p.version == 2)
  where
    by : (b : Bool) → concat (cond b (heads p) []) ≡ cond b (journal_head ++ flat_map (λ s. name_text s (plan_of p s).name) (streams_of p)) []
    by true = names_text p
    by false = refl

pub concat_five : (a b m d e : List (List ℕ)) → concat (a ++ (b ++ (m ++ (d ++ e)))) ≡ concat a ++ (concat b ++ (concat m ++ (concat d ++ concat e)))
concat_five a b m d e =
    concat-append a (b ++ (m ++ (d ++ e)))
    ∙ ap (λ (l : List ℕ). concat a ++ l) (concat-append b (m ++ (d ++ e))
    ∙ ap (λ (l : List ℕ). concat b ++ l) (concat-append m (d ++ e)
    ∙ ap (λ (l : List ℕ). concat m ++ l) (concat-append d e)))

-- ---- all lines are the output

module _ (p : PlansData) (base : ℕ) (events : List Event) (viewers : ℕ) (lines others : List (List ℕ)) (told : TellsAll p lines events others) (parted : Parted p base (reverse events) viewers others) where
  others_text : concat others ≡ behind_journal p (mark base) (reverse events) (concat parted.dumps ++ concat parted.views)
  others_text =
      let h = reverse events in
      ap concat parted.are
      ∙ concat_five (picture_lines p h) (lines_of_streams p h) (lines_of_marks p base h) parted.dumps parted.views
      ∙ (λ i. pictures_text (replay p h) i
      ++ (streams_text p h i ++ (marks_text p base h i ++ (concat parted.dumps ++ concat parted.views))))

  lines_text : concat lines ≡ output p (mark base) (reverse events) ++ (concat parted.dumps ++ concat parted.views)
  lines_text =
      let h = reverse events in
      told_text p lines events others told
      ∙ (λ i. heads_text p i ++ (journal_text (sym (reverse-reverse events) i) ++ others_text i))
      ∙ sym (output_flat p (mark base) h (concat parted.dumps ++ concat parted.views))

-- ---- the lines of looks

rise_cons : (first : look.Look) (looks : List look.Look) → IsNonDecreasingBy (λ (own : look.Look). own.events) looks → ((j : ℕ) (d : look.Look) → j < length looks → first.events ≤ (get_or looks j d).events)
    → IsNonDecreasingBy (λ (own : look.Look). own.events) (first ∷ looks)
rise_cons first looks rise low zero zero d le lt = omega arith
rise_cons first looks rise low zero (suc j) d le lt = low j d (omega (arith, lt))
rise_cons first looks rise low (suc i) zero d le lt = absurd (omega (arith, le))
rise_cons first looks rise low (suc i) (suc j) d le lt = rise i j d (omega (arith, le)) (omega (arith, lt))

-- the look at so many first events
abbrev look_at : PlansData → List Event → ℕ → look.Look
look_at p h n = record { events = n; sum = sum_after p h n }

-- the lines of so many looks of a viewer and the last one, none of fewer events than a given number
record Seen (p : PlansData) (h : List Event) (viewer n least : ℕ) (lines : List (List ℕ)) (last : ℕ) (rest : List (List ℕ)) : Type 0 where
  own : List (List ℕ)
  looks : List look.Look
  are : lines ≡ own ++ rest
  none : last ≡ 0
  text : concat own ≡ flat_map (look_text viewer) looks
  count : length looks ≡ suc n
  each : All (IsLookOf p h) looks
  from : (j : ℕ) (d : look.Look) → j < length looks → least ≤ (get_or looks j d).events
  rising : IsNonDecreasingBy (λ (own : look.Look). own.events) looks
  end : option_map (λ (own : look.Look). own.events) (slice_get looks n) ≡ Some (length h)

-- the lines of the looks of n viewers, from viewer v on
record AllSeen (p : PlansData) (h : List Event) (v n : ℕ) (lines rest : List (List ℕ)) : Type 0 where
  own : List (List ℕ)
  looks : List (List look.Look)
  are : lines ≡ own ++ rest
  text : concat own ≡ view_lines v looks
  many : length looks ≡ n
  each : All (AreViewerLooks p h) looks

from_cons : (first : look.Look) (looks : List look.Look) (least : ℕ) → least ≤ first.events → ((j : ℕ) (d : look.Look) → j < length looks → first.events ≤ (get_or looks j d).events)
    → (j : ℕ) (d : look.Look) → j < length (first ∷ looks) → least ≤ (get_or (first ∷ looks) j d).events
from_cons first looks least low from zero d lt = low
from_cons first looks least low from (suc j) d lt = let up = from j d (omega (arith, lt)) in omega (arith, up, low)

none_from : (least j : ℕ) (d : look.Look) → j < 0 → least ≤ (get_or [] j d).events
none_from least j d lt = absurd (omega (arith, lt))

none_rise : IsNonDecreasingBy (λ (own : look.Look). own.events) []
none_rise = λ i j d le lt. absurd (omega (arith, lt))

module _ (p : PlansData) (h : List Event) where
  seen_last : (viewer least : ℕ) (line : List ℕ) (rest : List (List ℕ)) (last : ℕ) → least ≤ length h → line ≡ look_text viewer (look_at p h (length h)) → last ≡ 0 → Seen p h viewer 0 least (line ∷ rest) last rest
  seen_last viewer least line rest last few is none =
      let own = look_at p h (length h) in
      record {
        own = line ∷ [];
        looks = own ∷ [];
        are = refl;
        none = none;
        text = ap (λ (l : List ℕ). l ++ []) is;
        count = refl;
        each = All-cons (IsLookOf p h) own [] (record { few = omega arith; sum = refl }) (All-nil (IsLookOf p h));
        from = from_cons own [] least few (none_from (length h));
        rising = rise_cons own [] none_rise (none_from (length h));
        end = refl;
      }

  seen_more : (viewer n least mid : ℕ) (line : List ℕ) (lines : List (List ℕ)) (last : ℕ) (rest : List (List ℕ)) → least ≤ mid → mid ≤ length h → line ≡ look_text viewer (look_at p h mid) → Seen p h viewer n mid lines last rest
      → Seen p h viewer (suc n) least (line ∷ lines) last rest
  seen_more viewer n least mid line lines last rest low few is more =
      let own = look_at p h mid in
      record {
        own = line ∷ more.own;
        looks = own ∷ more.looks;
        are = ap (λ (ls : List (List ℕ)). line ∷ ls) more.are;
        none = more.none;
        text = (λ i. is i ++ more.text i);
        count = ap suc more.count;
        each = All-cons (IsLookOf p h) own more.looks (record { few = few; sum = refl }) more.each;
        from = from_cons own more.looks least low more.from;
        rising = rise_cons own more.looks more.rising more.from;
        end = more.end;
      }

  looks_seen : (viewer n least : ℕ) (lines : List (List ℕ)) (last : ℕ) (rest : List (List ℕ)) → least ≤ length h → AreTakenOff p h (replicate n (Look viewer) ++ LastLook viewer ∷ []) least lines last rest → Seen p h viewer n least lines last rest
  looks_seen viewer zero least [] last rest few taken = absurd taken
  looks_seen viewer zero least (line ∷ lines) last rest few taken =
      let may = taken.1 in
      let done = taken.2 in
      subst (λ (ls : List (List ℕ)). Seen p h viewer 0 least (line ∷ ls) last rest) done.1 (seen_last viewer least line rest last few may.0 (done.0 ∙ may.1))
  looks_seen viewer (suc n) least [] last rest few taken = absurd taken
  looks_seen viewer (suc n) least (line ∷ lines) last rest few taken =
      let mid = taken.0 in
      let may = taken.1 in
      seen_more viewer n least mid line lines last rest may.0 may.1 may.2 (looks_seen viewer n mid lines last rest may.1 taken.2)

  all_seen : (v n least : ℕ) (lines : List (List ℕ)) (last : ℕ) (rest : List (List ℕ)) → least ≡ 0 → AreTakenOff p h (flat_map looks_due (range_with_len v n)) least lines last rest → AllSeen p h v n lines rest
  all_seen v zero least lines last rest none taken = record { own = []; looks = []; are = sym taken.1; text = refl; many = refl; each = All-nil (AreViewerLooks p h) }
  all_seen v (suc n) least lines last rest none taken =
      let parts = taken_parts p h (looks_due v) (flat_map looks_due (range_with_len (v + 1) n)) least lines last rest taken in
      let first = looks_seen v 16 least lines parts.0 parts.1 (omega (arith, none)) parts.2 in
      let others = all_seen (v + 1) n parts.0 parts.1 last rest first.none parts.3 in
      record {
        own = first.own ++ others.own;
        looks = first.looks ∷ others.looks;
        are = first.are ∙ ap (λ (ls : List (List ℕ)). first.own ++ ls) others.are ∙ sym (append_assoc first.own others.own rest);
        text = concat-append first.own others.own ∙ (λ i. first.text i ++ others.text i);
        many = ap suc others.many;
        each = All-cons (AreViewerLooks p h) first.looks others.looks (record { count = first.count; each = first.each; rising = first.rising; last = first.end }) others.each;
      }

-- ---- what is found

pub judged_whole : (base : ℕ) (input : List ℕ) (images : Pictures) (count : ℕ) (text : List ℕ) → IsRightWhole input base images count → text ≡ yes_line count ++ picture_text images → IsJudgedWhole base input text
judged_whole base input images count text right told =
    let p = right.0 in
    let events = right.1 in
    let others = right.2 in
    let found = right.3 in
    let h = reverse events in
    let n = viewers_in others in
    let parted = all_parted p base h n others right.4 in
    let seen = all_seen p h 1 n 0 parted.views parted.last [] refl parted.seen in
    let number = right.6 ∙ sym (length-reverse events) in
    record {
      plans = p;
      script = found.there.script;
      written = concat found.lines;
      there = ap (λ (o : Option (List (List ℕ))). option_map concat o) found.there.there;
      viewers = n;
      few = omega arith;
      ended = run_ending (reverse h);
      ran = record {
        history = h;
        behind = concat parted.dumps ++ concat parted.views;
        ran = record {
          dumps = concat parted.dumps;
          views = concat parted.views;
          run = record { legal = found.whole.legal; complete = found.whole.complete; dumped = parted.dumped; kept = none_lost h };
          seen = record { looks = seen.looks; many = seen.many; each = seen.each; are = ap concat (seen.are ∙ append-nil seen.own) ∙ seen.text };
          are = refl;
        };
        ends = refl;
        told = lines_text p base events n found.lines others found.told parted;
      };
      told = told ∙ (λ i. yes_line (number i) ++ picture_text (right.5 i));
    }
