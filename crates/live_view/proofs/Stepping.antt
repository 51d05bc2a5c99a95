-- Steps from one version to the next.
use Rattle.std.proofs.Common.{◌≡◌, ◌-◌, List, [], ◌∷◌, ◌++◌, length, fold, drop, refl, sym, ap, ◌∙◌, subst, arith, append_assoc, length-append, Some}
use Rattle.std.specs.Prelude.{slice_get, Result, Ok, Err, OnOk, OnErr, MatchResult}
use Rattle.std.proofs.lemmas.List.{append-nil}
use Rattle.std.proofs.lemmas.List.Sums.{fold-append}
use mathlib.Core.List.{IsPrefix}
use Rattle.gpu_store.specs.Images.{Pictures}
use Rattle.gpu_store.specs.declared.op.Op.{Op}
use Rattle.live_view.specs.declared.version.Version.{Version}
use Rattle.live_view.specs.declared.step.Mark.{Mark}
use Rattle.live_view.specs.declared.step.Step.{Step}
use Rattle.live_view.specs.declared.step.Step.TheVariants.{Draw, End}
use Rattle.live_view.specs.declared.shown.Shown.{Shown}
use Rattle.live_view.specs.Versions.{blank, version, images_drawn}
use Rattle.live_view.specs.Fronts.{FrontData}
use Rattle.live_view.specs.Steps.{shown_after, ops_of}
use Rattle.live_view.specs.Rule.{IsLast, IsBegun}
use Rattle.live_view.proofs.Prefixes.{prefix_self, prefix_trans}

-- one operation more
pub ops_push : (steps : List Step) (op : Op) → ops_of (steps ++ Draw op ∷ []) ≡ ops_of steps ++ op ∷ []
ops_push [] op = refl
ops_push (Draw first ∷ steps) op = ap (λ (ops : List Op). first ∷ ops) (ops_push steps op)
ops_push (End mark ∷ steps) op = ops_push steps op

get_push : (versions : List Version) (v : Version) → slice_get (versions ++ v ∷ []) (length versions) ≡ Some v
get_push [] v = refl
get_push (w ∷ versions) v = get_push versions v

-- an end adds no operation
pub ops_end : (steps : List Step) (mark : Mark) → ops_of (steps ++ End mark ∷ []) ≡ ops_of steps
ops_end [] mark = refl
ops_end (Draw first ∷ steps) mark = ap (λ (ops : List Op). first ∷ ops) (ops_end steps mark)
ops_end (End first ∷ steps) mark = ops_end steps mark

-- the images after some steps are those after their operations
images_after : (steps : List Step) (shown : Shown) → (fold shown_after shown steps).version.images ≡ images_drawn shown.version.images (ops_of steps)
images_after [] shown = refl
images_after (Draw op ∷ steps) shown = images_after steps (shown_after shown (Draw op))
images_after (End mark ∷ steps) shown = images_after steps (shown_after shown (End mark))

-- what some steps and an end after them lead to
pub ended : (steps : List Step) (mark : Mark) (shown : Shown) → fold shown_after shown (steps ++ End mark ∷ []) ≡ record { version = version (images_drawn shown.version.images (ops_of steps)) mark.events; front = mark.front }
ended steps mark shown =
    fold-append shown_after shown steps (End mark ∷ []) ∙ ap (λ (images : Pictures). record { version = version images mark.events; front = mark.front }) (images_after steps shown)

-- the last of a list with one more
pub last_push : (versions : List Version) (v : Version) → IsLast v (versions ++ v ∷ [])
last_push versions v =
    let end : length (versions ++ v ∷ []) - 1 ≡ length versions = omega (arith, length-append versions (v ∷ [])) in
    ap (slice_get (versions ++ v ∷ [])) end ∙ get_push versions v

pub begun_self : (front : FrontData) → IsBegun front front
begun_self front = record { same = refl; longer = prefix_self front.versions }

-- a list with one more goes on after what began the list
pub begun_push : (front all : FrontData) (v : Version) → IsBegun front all → IsBegun front (record { view = all.view; versions = all.versions ++ v ∷ [] })
begun_push front all v begun = record { same = begun.same; longer = prefix_trans front.versions all.versions (all.versions ++ v ∷ []) begun.longer (v ∷ [], refl) }

-- the first version ends the list that begins with it
pub begins : (front : FrontData) → front.versions ≡ blank ∷ [] → IsLast blank front.versions
begins front is = subst (λ (l : List Version). IsLast blank l) (sym is) refl

-- a list is its beginning and the rest
pub whole : (front all : List Version) → IsPrefix front all → front ++ drop (length front) all ≡ all
whole [] all pre = refl
whole (v ∷ front) [] pre = absurd (cc (pre.1))
whole (v ∷ front) (w ∷ all) pre = let same : v ≡ w = cc (pre.1) in let rest = whole front all (pre.0, cc (pre.1)) in cc (same, rest)

-- an operation goes from the front of those that wait after the steps
pub handed_on : (steps : List Step) (op : Op) (items all : List Op) → all ≡ op ∷ items → ops_of (steps ++ Draw op ∷ []) ++ items ≡ ops_of steps ++ all
handed_on steps op items all is = ap (λ (ops : List Op). ops ++ items) (ops_push steps op) ∙ append_assoc (ops_of steps) (op ∷ []) items ∙ ap (λ (ops : List Op). ops_of steps ++ ops) (sym is)

-- where none waits any more, the steps have all operations
pub all_handed : (steps : List Step) (items noted : List Op) → ops_of steps ++ items ≡ noted → items ≡ [] → ops_of steps ≡ noted
all_handed steps items noted is none = sym (append-nil (ops_of steps)) ∙ ap (λ (more : List Op). ops_of steps ++ more) (sym none) ∙ is

-- one more comes after the rest after a beginning
pub drop_push : (front all : List Version) (v : Version) → IsPrefix front all → drop (length front) (all ++ v ∷ []) ≡ drop (length front) all ++ v ∷ []
drop_push [] all v pre = refl
drop_push (w ∷ front) [] v pre = absurd (cc (pre.1))
drop_push (w ∷ front) (x ∷ all) v pre = drop_push front all v (pre.0, cc (pre.1))

-- nothing is left after the whole
drop_self : (all : List Version) → drop (length all) all ≡ []
drop_self [] = refl
drop_self (v ∷ all) = drop_self all

pub drop_whole : (front all : List Version) → front ≡ all → drop (length front) all ≡ []
drop_whole front all is = ap (λ (l : List Version). drop (length l) all) is ∙ drop_self all

-- the list with one more goes on after what was published
pub begun_next : (before now : Shown) (all front : FrontData) (v : Version) → now ≡ before → IsBegun before.front all → front.view ≡ all.view → front.versions ≡ all.versions ++ v ∷ [] → IsBegun now.front front
begun_next before now all front v is begun view versions =
    let more = begun_push before.front all v begun in
    subst (λ (s : Shown). IsBegun s.front front) (sym is) (record { same = begun.same ∙ sym view; longer = subst (λ (l : List Version). IsPrefix before.front.versions l) (sym versions) more.longer })

-- what holds where a call succeeded, and where it failed
pub on_ok : {U E A C : Type 0} (B : Type 0) (r : Result U E) → MatchResult r (λ _. A) (λ _. B) → (A → C) → OnOk r C
on_ok B (Ok x) is f = f is
on_ok B (Err e) is f = tt

pub on_err : {U E B C : Type 0} (A : Type 0) (r : Result U E) → MatchResult r (λ _. A) (λ _. B) → (B → C) → OnErr r C
on_err A (Ok x) is f = tt
on_err A (Err e) is f = f is

pub in_both : {U E A B C : Type 0} (r : Result U E) → MatchResult r (λ _. A) (λ _. B) → (A → C) → (B → C) → C
in_both (Ok x) is f h = f is
in_both (Err e) is f h = h is

pub both_ok : {U E : Type 0} (A B : Type 0) (r : Result U E) → OnOk r A → OnOk r B → OnOk r (A × B)
both_ok A B (Ok x) a b = (a, b)
both_ok A B (Err e) a b = tt

pub three_err : {U E : Type 0} (A B C : Type 0) (r : Result U E) → OnErr r A → OnErr r B → OnErr r C → OnErr r (A × B × C)
three_err A B C (Ok x) a b c = tt
three_err A B C (Err e) a b c = (a, b, c)
