-- All parts after a journal, one after the other, and the end of the text.
use Rattle.verify_input.proofs.Names.{◌≡◌, ℕ, List, [], ◌∷◌, ◌++◌, length, drop, Result, Ok, Err, refl, sym, ap, subst, ◌∙◌, append_assoc, ◌≢◌, OnOk, OnErr, IfErr, concat, flat_map, append-nil, Pictures, PlansData, Event, whole_lines, Due, same_lines, lines_of_image, images_due, streams_due, marks_due, all_dumps_due, viewers_due, dues, AreTakenOff, IsOff, AreDue, IsMore, IsFirstOff, HasTaken, IsBad, IsHistory, IsFirstBadOf, JudgesAll, past_of, History, What, Rest, Bad, Off}
use Rattle.verify_input.proofs.Dues.{IsTaking, Begins, taking_bad, taking_all}
use Rattle.verify_input.proofs.Wholes.{concat_whole}
use Rattle.verify_input.specs.declared.what.What.TheVariants as what
use Rattle.verify_input.specs.declared.rest.Bad.TheVariants.{Memory}

-- ---- the first line that is off

module _ (p : PlansData) (h : List Event) where
  pub first_off : (dues : List Due) (lines : List (List ℕ)) (k : ℕ) (part : What) → part ≢ what.More → IsOff p h dues 0 lines k part → IsFirstOff p h dues lines k part
  first_off dues lines k what.Name other off = off
  first_off dues lines k what.Image other off = off
  first_off dues lines k what.Stream other off = off
  first_off dues lines k what.Mark other off = off
  first_off dues lines k what.Dump other off = off
  first_off dues lines k what.View other off = off
  first_off dues lines k what.Missing other off = off
  first_off dues lines k what.More other off = absurd (other refl)

  pub bad_of : (dues : List Due) (old : Rest) (bad : Bad) → IsBad p h dues 0 old bad → IsFirstBadOf p h dues old bad
  bad_of dues old (Off line part) bad = let off = bad.off line part refl in (off.0, off.1, first_off dues (whole_lines old.text.now) off.0 part off.3 off.2)
  bad_of dues old (Memory refusal) bad = tt

  -- ---- the end

  pub all_due : (dues : List Due) (old new : Rest) → HasTaken p h dues 0 old new 0 → new.text.now ≡ [] → AreDue p h dues (whole_lines old.text.now)
  all_due dues old new taken none = (0, subst (λ (lines : List (List ℕ)). AreTakenOff p h dues 0 (whole_lines old.text.now) 0 lines) (ap whole_lines none) taken.taken)

  pub more_due : (dues : List Due) (old new : Rest) → HasTaken p h dues 0 old new 0 → (new.text.now ≡ [] → ⊥) → IsFirstBadOf p h dues old (Off new.line what.More)
  more_due dues old new taken some = (length dues, taken.number, by (whole_lines new.text.now) refl)
    where
      by : (lines : List (List ℕ)) → whole_lines new.text.now ≡ lines → IsMore p h dues (whole_lines old.text.now) (length dues)
      by [] none = absurd (some (sym (concat_whole new.text.now) ∙ ap concat none))
      by (line ∷ lines) is = record {
        then = 0;
        line = line;
        rest = lines;
        taken = subst (λ (ls : List (List ℕ)). AreTakenOff p h dues 0 (whole_lines old.text.now) 0 ls) is taken.taken;
        count = refl;
      }

-- ---- the five parts

-- all parts together
abbrev pub joined : List (List Due) → List Due
joined parts = flat_map (λ part. part) parts

-- all that is due, part by part
abbrev pub parts : PlansData → ℕ → List Event → ℕ → List (List Due)
parts p base h viewers = images_due p h ∷ streams_due p h ∷ marks_due p base h ∷ all_dumps_due p h ∷ viewers_due viewers ∷ []

pub dues_parts : (p : PlansData) (base : ℕ) (h : List Event) (viewers : ℕ) → dues p base h viewers ≡ joined (parts p base h viewers)
unfolding dues
dues_parts p base h viewers = by (images_due p h) (streams_due p h) (marks_due p base h) (all_dumps_due p h) (viewers_due viewers)
  where
    by : (a b c d e : List Due) → a ++ b ++ c ++ d ++ e ≡ joined (a ∷ b ∷ c ∷ d ∷ e ∷ [])
    by a b c d e = simp (append_assoc, append-nil)

pub part_next : {xs left : List Due} → Begins (xs ++ left) xs left
part_next = record { is = refl }

pub part_as : {xs ys left : List Due} → xs ≡ ys → Begins (ys ++ left) xs left
part_as {left = left} same = record { is = ap (λ (part : List Due). part ++ left) (sym same) }

-- the first of them, by the images that are kept
pub images_next : (history : History) → IsHistory history → (base viewers : ℕ) {images : Pictures} → images ≡ history.followed.now.judge.images
    → Begins (dues history.plans.now base (past_of history) viewers) (same_lines what.Image (flat_map lines_of_image images)) (joined (drop 1 (parts history.plans.now base (past_of history) viewers)))
images_next history is base viewers kept = record {
  is = dues_parts history.plans.now base (past_of history) viewers
      ∙ ap (λ (images : Pictures). same_lines what.Image (flat_map lines_of_image images) ++ joined (drop 1 (parts history.plans.now base (past_of history) viewers))) (sym (kept ∙ is.followed.follows.shows.drawn));
}

-- where a part is off, the exit of a `?` says so of all
pub all_exit : {T : Type 0} {p : PlansData} {h : List Event} {all xs left more : List Due} {m : ℕ} {old mid : Rest} {bad : Bad} {r : Result T Bad}
    → (y : Bad) × (r ≡ Err y) × (y ≡ bad) → Begins more xs left → IsTaking p h all more old mid m → IsBad p h xs m mid bad → JudgesAll p h all old r
all_exit {p = p} {h = h} {all = all} {old = old} {bad = bad} exit begins on here =
    subst (λ r. JudgesAll p h all old r) (sym (exit.1 ∙ ap Err exit.2)) (record { ok = tt; err = bad_of p h all old bad (taking_bad begins on here) })

-- where all parts are taken, all ends as the text does
pub judged_end : {T : Type 0} (p : PlansData) (h : List Event) (dues : List Due) (old new : Rest) (r : Result T Bad) → IsTaking p h dues [] old new 0 → OnOk r (new.text.now ≡ []) → IfErr r (λ bad. bad ≡ Off new.line what.More) → OnErr r (new.text.now ≡ [] → ⊥)
    → JudgesAll p h dues old r
judged_end p h dues old new (Ok done) on none is more = record { ok = all_due p h dues old new (taking_all refl on) none; err = tt }
judged_end p h dues old new (Err bad) on none is more = record { ok = tt; err = subst (IsFirstBadOf p h dues old) (sym is) (more_due p h dues old new (taking_all refl on) more) }
