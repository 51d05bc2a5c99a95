-- The output of a legal history tells it.
use Rattle.std.proofs.Common.{◌≡◌, ℕ, ◌^◌, ◌<◌, Bool, true, false, not, ◌&&◌, ◌==◌, cond, List, [], ◌∷◌, ◌++◌, length, drop, reverse, IsTrue, refl, sym, ap, subst, ◌∙◌, append_assoc}
use Rattle.std.proofs.lemmas.Bool.{both_ways}
use Rattle.std.specs.Prelude.{codes}
use Rattle.std.specs.List.{All, flat_map}
use Rattle.std.proofs.lemmas.List.{append-nil, reverse-reverse, reverse-append}
use Rattle.std.proofs.lemmas.List.Elements.{All-nil, All-push, All-weaker}
use Rattle.gpu_word.proofs.Pieces.{four_pieces, five_pieces}
use Rattle.gpu_cmd.specs.declared.name.Name.{Name}
use Rattle.gpu_store.specs.Images.{Pictures}
use Rattle.gpu_plan.specs.Plans.{PlansData, plan_of}
use Rattle.gpu_plan.proofs.Holding.{may_hold_fits}
use Rattle.gpu_cmd.specs.Lawful.{places_of}
use Rattle.sync_core.specs.declared.ending.Ending.{Ending}
use Rattle.sync_core.specs.Standing.{IsKnown}
use Rattle.gpu_journal.specs.declared.event.Event.{Event}
use Rattle.gpu_journal.specs.declared.event.Event.TheVariants.{Order, Step, Finish, Lost, Close}
use Rattle.gpu_journal.specs.declared.event.Why.TheVariants.{Error, Memory}
use Rattle.gpu_journal.specs.declared.end.End.{End}
use Rattle.gpu_journal.specs.World.{state_of, replay}
use Rattle.gpu_journal.specs.Waits.{endings_in}
use Rattle.gpu_journal.specs.Facts.{flush_of, reach}
use Rattle.gpu_journal.specs.Legal.{MayHaveBeenPut, Obeys, IsLegal}
use Rattle.gpu_journal.specs.Ended.{streams_of, end_of}
use Rattle.gpu_journal.specs.Dumps.{dumps_of}
use Rattle.journal_text.specs.declared.tally.Tally.{Tally}
use Rattle.journal_text.specs.Digits.{number_text}
use Rattle.journal_text.specs.Text.{event_text, journal_text, stream_text, tally_of}
use Rattle.journal_text.specs.Picture.{head_text, image_text, picture_text}
use Rattle.journal_text.specs.Lines.{journal_head, name_text, mark_text, dump_text, view_text}
use Rattle.journal_text.specs.Output.{head_lines, stream_lines, mark_lines, output, AreDumps, AreDumpsOf, dump_line, dump_lines}
use Rattle.journal_text.specs.Laws.{HasWords, begins_other_part}
use Rattle.journal_text.proofs.Numerals.{behind_first, number_cut}
use Rattle.journal_text.proofs.Telling.{output_tells}
use Rattle.serial_laws.specs.Scripts.{AreLawfulPlans}
use Rattle.serial_laws.proofs.Passed.{lawful_of}
use Rattle.serial_laws.proofs.Spent.{obeys_known}
use Rattle.script_laws.specs.Laws.{SameOutputIsSameHistory, SameRunIsSameHistory, look_lines, SameThreadedRunIsSameHistory}

-- ---- the words of a legal history have 32 bits

abbrev Small : ℕ × ℕ → Type 0
Small word = word.1 < 2 ^ 32

put_small : (p : PlansData) (h : List Event) (s : ℕ) (words : List (ℕ × ℕ)) → AreLawfulPlans p → IsKnown (length p.plans) s → All (MayHaveBeenPut p h s) words → All Small words
put_small p h s words lawful known put =
    All-weaker (MayHaveBeenPut p h s) Small (λ word may. may_hold_fits (plan_of p s).actions (places_of (plan_of p s).areas) (flush_of p h s) (reach p h s) word.0 word.1 (lawful_of p s lawful known).within may) words put

pub event_small : (p : PlansData) (e : Event) (h : List Event) → AreLawfulPlans p → IsLegal p h → Obeys p h e → HasWords e
event_small p (Order s n c) h lawful legal o = All-nil Small
event_small p (Step s words) h lawful legal o = put_small p h s words lawful (obeys_known p (Step s words) h legal o) o.rule_8
event_small p (Finish s n) h lawful legal o = All-nil Small
event_small p (Lost s (Error error) words) h lawful legal o = put_small p h s words lawful (obeys_known p (Lost s (Error error) words) h legal o) o.rule_8
event_small p (Lost s Memory words) h lawful legal o = subst (All Small) (sym o.rule_11.1) (All-nil Small)
event_small p (Close s) h lawful legal o = All-nil Small

-- the oldest first
events_small : (p : PlansData) (h : List Event) → AreLawfulPlans p → IsLegal p h → All HasWords (reverse h)
events_small p [] lawful legal = All-nil HasWords
events_small p (e ∷ h) lawful legal =
    subst (All HasWords) (sym (reverse-append (e ∷ []) h)) (All-push HasWords (reverse h) e (events_small p h lawful legal.1) (event_small p e h lawful legal.1 legal.0))

-- ---- what stands after the head, and what after the journal

-- the first byte, or 0
abbrev first : List ℕ → ℕ
first [] = 0
first (b ∷ rest) = b

-- no `g` and no `n` is first: the text is no head line and no line of a name
abbrev is_apart : List ℕ → Bool
is_apart x = not (first x == 103) && not (first x == 110)

-- the text can stand after a journal, and be told from head lines too
abbrev CanFollow : List ℕ → Type 0
CanFollow x = IsTrue (begins_other_part x) × (is_apart x ≡ true)

dumps_follow : (p : PlansData) (h : List Event) (s : ℕ) (dumps : List (ℕ × ℕ)) (behind : List ℕ) → CanFollow behind → CanFollow (flat_map (dump_line p h s) dumps ++ behind)
unfolding dump_text
dumps_follow p h s [] behind can = can
dumps_follow p h s (dump ∷ dumps) behind can = (refl, refl)

all_dumps_follow : (p : PlansData) (h : List Event) (streams : List ℕ) → CanFollow (flat_map (λ s. flat_map (dump_line p h s) (dumps_of p h s)) streams)
all_dumps_follow p h [] = (refl, refl)
all_dumps_follow p h (s ∷ streams) = dumps_follow p h s (dumps_of p h s) (flat_map (λ s. flat_map (dump_line p h s) (dumps_of p h s)) streams) (all_dumps_follow p h streams)

lines_follow : (p : PlansData) (h : List Event) → CanFollow (dump_lines p h)
unfolding dump_lines
lines_follow p h = all_dumps_follow p h (streams_of p)

marks_follow : (mark : Ending → ℕ) (endings : List Ending) (behind : List ℕ) → CanFollow behind → CanFollow (flat_map (λ ending. mark_text ending (mark ending)) endings ++ behind)
unfolding mark_text
marks_follow mark [] behind can = can
marks_follow mark (ending ∷ endings) behind can = (refl, refl)

streams_follow : (tally : ℕ → Tally) (end : ℕ → End) (streams : List ℕ) (behind : List ℕ) → CanFollow behind → CanFollow (flat_map (λ s. stream_text s (tally s) (end s)) streams ++ behind)
unfolding stream_text
streams_follow tally end [] behind can = can
streams_follow tally end (s ∷ streams) behind can = (refl, refl)

pictures_follow : (images : Pictures) (behind : List ℕ) → CanFollow behind → CanFollow (picture_text images ++ behind)
unfolding picture_text image_text head_text
pictures_follow [] behind can = can
pictures_follow (entry ∷ images) behind can = (refl, refl)

abbrev pub behind_journal : PlansData → (Ending → ℕ) → List Event → List ℕ → List ℕ
behind_journal p mark h x = picture_text (replay p h) ++ (stream_lines p h ++ (mark_lines p mark h ++ x))

journal_follows : (p : PlansData) (mark : Ending → ℕ) (h : List Event) (x : List ℕ) → CanFollow x → CanFollow (behind_journal p mark h x)
journal_follows p mark h x can =
    pictures_follow (replay p h) (stream_lines p h ++ (mark_lines p mark h ++ x))
    (streams_follow (λ s. tally_of (state_of p h s)) (end_of h) (streams_of p) (mark_lines p mark h ++ x) (marks_follow mark (endings_in p h) x can))

events_apart : (events : List Event) (behind : List ℕ) → is_apart behind ≡ true → is_apart (journal_text events ++ behind) ≡ true
unfolding journal_text event_text
events_apart [] behind apart = apart
events_apart (Order s n c ∷ events) behind apart = refl
events_apart (Step s words ∷ events) behind apart = refl
events_apart (Finish s n ∷ events) behind apart = refl
events_apart (Lost s why words ∷ events) behind apart = refl
events_apart (Close s ∷ events) behind apart = refl

abbrev pub behind_head : PlansData → (Ending → ℕ) → List Event → List ℕ → List ℕ
behind_head p mark h x = journal_text (reverse h) ++ behind_journal p mark h x

head_apart : (p : PlansData) (mark : Ending → ℕ) (h : List Event) (x : List ℕ) → CanFollow x → is_apart (behind_head p mark h x) ≡ true
head_apart p mark h x can = events_apart (reverse h) (behind_journal p mark h x) (journal_follows p mark h x can).1

-- ---- heads and names

name_flat : (s : ℕ) (name : Name) (x : List ℕ) → name_text s name ++ x ≡ codes "name" ++ (number_text s ++ (number_text name.namespace ++ (number_text name.id ++ (10 ∷ x))))
unfolding name_text
name_flat s name x = append_assoc (codes "name" ++ number_text s ++ number_text name.namespace ++ number_text name.id) (codes "\n") x ∙ four_pieces (codes "name") (number_text s) (number_text name.namespace) (number_text name.id) (10 ∷ x)

name_cut : (s t : ℕ) (a b : Name) (x y : List ℕ) → name_text s a ++ x ≡ name_text t b ++ y → x ≡ y
name_cut s t a b x y e =
    let behind = ap (drop 4) (sym (name_flat s a x) ∙ e ∙ name_flat t b y) in
    let one = number_cut s t (number_text a.namespace ++ (number_text a.id ++ (10 ∷ x))) (number_text b.namespace ++ (number_text b.id ++ (10 ∷ y))) refl refl behind in
    let two = number_cut a.namespace b.namespace (number_text a.id ++ (10 ∷ x)) (number_text b.id ++ (10 ∷ y)) refl refl one.1 in
    let three = number_cut a.id b.id (10 ∷ x) (10 ∷ y) refl refl two.1 in
    ap behind_first three.1

-- the lines of names end where the text after them begins
names_cut : (f g : ℕ → Name) (ss ts : List ℕ) (x y : List ℕ) → is_apart x ≡ true → is_apart y ≡ true → flat_map (λ s. name_text s (f s)) ss ++ x ≡ flat_map (λ s. name_text s (g s)) ts ++ y → x ≡ y
unfolding name_text
names_cut f g [] [] x y ax ay e = e
names_cut f g [] (t ∷ ts) x y ax ay e = absurd (both_ways (is_apart x) (ap is_apart e) ax)
names_cut f g (s ∷ ss) [] x y ax ay e = absurd (both_ways (is_apart y) (ap is_apart (sym e)) ay)
names_cut f g (s ∷ ss) (t ∷ ts) x y ax ay e =
    names_cut f g ss ts x y ax ay
    (name_cut s t (f s) (g t) (flat_map (λ s. name_text s (f s)) ss ++ x) (flat_map (λ s. name_text s (g s)) ts ++ y)
    (sym (append_assoc (name_text s (f s)) (flat_map (λ s. name_text s (f s)) ss) x) ∙ e ∙ append_assoc (name_text t (g t)) (flat_map (λ s. name_text s (g s)) ts) y))

abbrev names_text : PlansData → List ℕ
names_text p = flat_map (λ s. name_text s (plan_of p s).name) (streams_of p)

-- the head, by whether there is one
abbrev head_by : PlansData → Bool → List ℕ
head_by p b = cond b (journal_head ++ names_text p) []

heads_cut : (p q : PlansData) (b c : Bool) (x y : List ℕ) → is_apart x ≡ true → is_apart y ≡ true → head_by p b ++ x ≡ head_by q c ++ y → x ≡ y
heads_cut p q false false x y ax ay e = e
heads_cut p q false true x y ax ay e = absurd (both_ways (is_apart x) (ap is_apart e) ax)
heads_cut p q true false x y ax ay e = absurd (both_ways (is_apart y) (ap is_apart (sym e)) ay)
heads_cut p q true true x y ax ay e =
    names_cut (λ s. (plan_of p s).name) (λ s. (plan_of q s).name) (streams_of p) (streams_of q) x y ax ay
    (ap (drop 14) (sym (append_assoc journal_head (names_text p) x) ∙ e ∙ append_assoc journal_head (names_text q) y))

-- ---- the whole output

pub output_flat : (p : PlansData) (mark : Ending → ℕ) (h : List Event) (x : List ℕ) → output p mark h ++ x ≡ head_lines p ++ behind_head p mark h x
unfolding output
output_flat p mark h x = five_pieces (head_lines p) (journal_text (reverse h)) (picture_text (replay p h)) (stream_lines p h) (mark_lines p mark h) x

same_text : (p q : PlansData) (mark other : Ending → ℕ) (g h : List Event) (x y : List ℕ) → AreLawfulPlans p → AreLawfulPlans q → IsLegal p g → IsLegal q h → CanFollow x → CanFollow y → output p mark g ++ x ≡ output q other h ++ y → g ≡ h
same_text p q mark other g h x y lawful lawful' legal legal' can can' e =
    let flat : head_lines p ++ behind_head p mark g x ≡ head_lines q ++ behind_head q other h y = sym (output_flat p mark g x) ∙ e ∙ output_flat q other h y in
    let rest = heads_cut p q (p.version == 2) (q.version == 2) (behind_head p mark g x) (behind_head q other h y) (head_apart p mark g x can) (head_apart q other h y can') flat in
    let same = output_tells (reverse g) (reverse h) (behind_journal p mark g x) (behind_journal q other h y) (events_small p g lawful legal) (events_small q h lawful' legal') (journal_follows p mark g x can).0 (journal_follows q other h y can').0 rest in
    sym (reverse-reverse g) ∙ ap reverse same.0 ∙ reverse-reverse h

pub same_output_is_same_history : SameOutputIsSameHistory
same_output_is_same_history p q mark other g h lawful lawful' legal legal' e =
    same_text p q mark other g h [] [] lawful lawful' legal legal' (refl, refl) (refl, refl) (append-nil (output p mark g) ∙ e ∙ sym (append-nil (output q other h)))

pub same_run_is_same_history : SameRunIsSameHistory
same_run_is_same_history p q mark other g h lawful lawful' legal legal' e = same_text p q mark other g h (dump_lines p g) (dump_lines q h) lawful lawful' legal legal' (lines_follow p g) (lines_follow q h) e

-- ---- runs on threads

told_follow : (p : PlansData) (h : List Event) (s : ℕ) (dumps : List (ℕ × ℕ)) (text behind : List ℕ) → AreDumps p h s dumps text → CanFollow behind → CanFollow (text ++ behind)
unfolding dump_text
told_follow p h s [] text behind are can = subst (λ (x : List ℕ). CanFollow (x ++ behind)) (sym are) can
told_follow p h s (dump ∷ dumps) text behind are can = subst (λ (x : List ℕ). CanFollow (x ++ behind)) (sym are.3) (refl, refl)

all_told_follow : (p : PlansData) (h : List Event) (streams : List ℕ) (text behind : List ℕ) → AreDumpsOf p h streams text → CanFollow behind → CanFollow (text ++ behind)
all_told_follow p h [] text behind are can = subst (λ (x : List ℕ). CanFollow (x ++ behind)) (sym are) can
all_told_follow p h (s ∷ streams) text behind are can =
    subst (λ (x : List ℕ). CanFollow (x ++ behind)) (sym are.3)
    (subst CanFollow (sym (append_assoc are.0 are.1 behind)) (told_follow p h s (dumps_of p h s) are.0 (are.1 ++ behind) are.2 (all_told_follow p h streams are.1 behind are.4 can)))

looks_follow : (looks : List (ℕ × ℕ × ℕ)) → CanFollow (look_lines looks)
unfolding view_text
looks_follow [] = (refl, refl)
looks_follow (look ∷ looks) = (refl, refl)

pub same_threaded_run_is_same_history : SameThreadedRunIsSameHistory
same_threaded_run_is_same_history p q mark other g h dumps more looks others lawful lawful' legal legal' told told' e =
    same_text p q mark other g h (dumps ++ look_lines looks) (more ++ look_lines others) lawful lawful' legal legal'
    (all_told_follow p g (streams_of p) dumps (look_lines looks) told (looks_follow looks)) (all_told_follow q h (streams_of q) more (look_lines others) told' (looks_follow others)) e
