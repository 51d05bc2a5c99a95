-- Lines that are due, one part after the other.
use Rattle.verify_input.proofs.Names.{◌≡◌, ℕ, zero, suc, ◌+◌, ◌<◌, List, map, [], ◌∷◌, ◌++◌, length, drop, get_or, refl, ap, subst, append_assoc, Result, Ok, Err, arith, Bool, true, false, cond, eqb, sym, ◌∙◌, ◌≤◌, ◌≢◌, ◌==◌, if◌then◌else◌, concat, flat_map, range_with_len, ne_eqb, append-nil, drop_more, drop_all, length-range_with_len, get_or-range_with_len, nat_tests, PlansData, Event, whole_lines, Due, Same, what_of, same_lines, MayStand, AreTakenOff, IsOff, IsFirstOther, off_of, HasTaken, IsBad, Judges, What, Rest, Bad, Off}
use Rattle.verify_input.proofs.Wholes.{concat_whole, few_whole}
use Rattle.verify_input.specs.declared.what.What.TheVariants as what
use Rattle.verify_input.specs.declared.rest.Bad.TheVariants.{Memory}

-- of all that is due some is taken, and this is left
pub record IsTaking (p : PlansData) (h : List Event) (all left : List Due) (old new : Rest) (last : ℕ) : Type 0 where
  pub done : List Due
  pub is : all ≡ done ++ left
  pub taken : HasTaken p h done 0 old new last

-- what is left begins with these, and then these are left
pub record Begins (more xs left : List Due) : Type 0 where
  pub is : more ≡ xs ++ left

length_both : (xs ys : List Due) → length (xs ++ ys) ≡ length xs + length ys
length_both [] ys = omega arith
length_both (x ∷ xs) ys = let more = length_both xs ys in omega (arith, more)

-- of the lines that a history of some plans lets stand
module _ (p : PlansData) (h : List Event) where
  pub taken_both : (xs ys : List Due) (l : ℕ) (lines : List (List ℕ)) (m : ℕ) (mid : List (List ℕ)) (n : ℕ) (rest : List (List ℕ))
      → AreTakenOff p h xs l lines m mid → AreTakenOff p h ys m mid n rest → AreTakenOff p h (xs ++ ys) l lines n rest
  taken_both [] ys l lines m mid n rest a b =
      subst (λ (k : ℕ). AreTakenOff p h ys k lines n rest) a.0 (subst (λ (z : List (List ℕ)). AreTakenOff p h ys m z n rest) a.1 b)
  taken_both (x ∷ xs) ys l [] m mid n rest a b = absurd a
  taken_both (x ∷ xs) ys l (line ∷ lines) m mid n rest a b = (a.0, a.1, taken_both xs ys a.0 lines m mid n rest a.2 b)

  pub off_first : (xs ys : List Due) (l : ℕ) (lines : List (List ℕ)) (k : ℕ) (what : What) → IsOff p h xs l lines k what → IsOff p h (xs ++ ys) l lines k what
  off_first [] ys l lines k what off = absurd off
  off_first (x ∷ xs) ys l [] k what off = off
  off_first (x ∷ xs) ys l (line ∷ lines) zero what off = off
  off_first (x ∷ xs) ys l (line ∷ lines) (suc k) what off = (off.0, off.1, off_first xs ys off.0 lines k what off.2)

  pub off_later : (xs ys : List Due) (l : ℕ) (lines : List (List ℕ)) (m : ℕ) (mid : List (List ℕ)) (k : ℕ) (what : What)
      → AreTakenOff p h xs l lines m mid → IsOff p h ys m mid k what → IsOff p h (xs ++ ys) l lines (length xs + k) what
  off_later [] ys l lines m mid k what a off =
      let none : k ≡ 0 + k = omega arith in
      subst (λ (j : ℕ). IsOff p h ys l lines j what) none (subst (λ (j : ℕ). IsOff p h ys j lines k what) a.0 (subst (λ (z : List (List ℕ)). IsOff p h ys m z k what) a.1 off))
  off_later (x ∷ xs) ys l [] m mid k what a off = absurd a
  off_later (x ∷ xs) ys l (line ∷ lines) m mid k what a off =
      let next : suc (length xs + k) ≡ suc (length xs) + k = omega arith in
      subst (λ (j : ℕ). IsOff p h (x ∷ (xs ++ ys)) l (line ∷ lines) j what) next (a.0, a.1, off_later xs ys a.0 lines m mid k what a.2 off)

  -- ---- one line

  no_lines : (text : List ℕ) → whole_lines text ≡ [] → length text ≡ 0
  no_lines text none = ap length (sym (concat_whole text) ∙ ap concat none)

  some_lines : (text line : List ℕ) (lines : List (List ℕ)) → whole_lines text ≡ line ∷ lines → length text ≡ 0 → ⊥
  some_lines text line lines some none =
      let few = few_whole text in
      let many = ap length some in
      absurd (omega (arith, few, many, none))

  pub line_taken : (part : What) (due : List ℕ) (old new : Rest) → whole_lines old.text.now ≡ due ∷ whole_lines new.text.now → new.line ≡ old.line + 1 → HasTaken p h (same_lines part (due ∷ [])) 0 old new 0
  line_taken part due old new lines number = record {
    taken = subst (λ (ls : List (List ℕ)). AreTakenOff p h (Same part due ∷ []) 0 ls 0 (whole_lines new.text.now)) (sym lines) (0, (refl, refl), (refl, refl));
    number = number;
  }

  -- ---- a line that may stand in more than one way

  -- a line of one kind is taken as one of another
  pub taken_as : (a b : Due) (l m n k : ℕ) (old new : Rest) → ((line : List ℕ) → MayStand p h a l line n → MayStand p h b m line k) → HasTaken p h (a ∷ []) l old new n → HasTaken p h (b ∷ []) m old new k
  taken_as a b l m n k old new goes taken = record { taken = by (whole_lines old.text.now) taken.taken; number = taken.number }
    where
      by : (lines : List (List ℕ)) → AreTakenOff p h (a ∷ []) l lines n (whole_lines new.text.now) → AreTakenOff p h (b ∷ []) m lines k (whole_lines new.text.now)
      by [] off = absurd off
      by (line ∷ lines) off =
          (k, goes line (subst (λ (last : ℕ). MayStand p h a l line last) (sym off.2.0) off.1), (refl, off.2.1))

  -- where one of the other kind does not stand there, nor does this
  pub bad_as : (a b : Due) (l m : ℕ) (old : Rest) (bad : Bad) → what_of a ≡ what_of b
      → ((line : List ℕ) (lines : List (List ℕ)) (last : ℕ) → whole_lines old.text.now ≡ line ∷ lines → MayStand p h b m line last → (other : ℕ) × MayStand p h a l line other)
      → IsBad p h (a ∷ []) l old bad → IsBad p h (b ∷ []) m old bad
  bad_as a b l m old bad same back here = record { off = λ line part e. let off = here.off line part e in (off.0, off.1, by (whole_lines old.text.now) refl off.0 part off.2, off.3) }
    where
      by : (lines : List (List ℕ)) → whole_lines old.text.now ≡ lines → (k : ℕ) (part : What) → IsOff p h (a ∷ []) l lines k part → IsOff p h (b ∷ []) m lines k part
      by [] is k part off = off
      by (line ∷ lines) is zero part off =
          (off.0 ∙ same, λ last may. let other = back line lines last is may in off.1 other.0 other.1)
      by (line ∷ lines) is (suc k) part off = absurd off.2

  -- no line of this kind stands there
  pub due_bad : (due : Due) (part : What) (l : ℕ) (old : Rest) → part ≡ what_of due → part ≢ what.More → ((line : List ℕ) (lines : List (List ℕ)) (last : ℕ) → whole_lines old.text.now ≡ line ∷ lines → MayStand p h due l line last → ⊥)
      → IsBad p h (due ∷ []) l old (off_of old part)
  due_bad due part l old same one not = record {
    off = λ line told e.
        let same : Off old.line (if length old.text.now == 0 then what.Missing else part) ≡ Off line told = e in
        let first : line ≡ old.line = cc in
        let is : (if length old.text.now == 0 then what.Missing else part) ≡ told = cc in
        (0, omega (arith, first), subst (λ (part : What). IsOff p h (due ∷ []) l (whole_lines old.text.now) 0 part) is (by (whole_lines old.text.now) refl), subst (λ (part : What). part ≢ what.More) is (other (length old.text.now == 0)));
  }
    where
      other : (b : Bool) → (if b then what.Missing else part) ≢ what.More
      other true = λ e. cc
      other false = one

      by : (lines : List (List ℕ)) → whole_lines old.text.now ≡ lines → IsOff p h (due ∷ []) l (whole_lines old.text.now) 0 (if length old.text.now == 0 then what.Missing else part)
      by [] none =
          let zero : eqb (length old.text.now) 0 ≡ true = (let e = no_lines old.text.now none in grind (arith, nat_tests, e)) in
          subst (λ (ls : List (List ℕ)). IsOff p h (due ∷ []) l ls 0 (if length old.text.now == 0 then what.Missing else part)) (sym none) (refl, ap (λ (b : Bool). cond b what.Missing part) zero)
      by (line ∷ lines) some =
          let more : eqb (length old.text.now) 0 ≡ false = ne_eqb (length old.text.now) 0 (some_lines old.text.now line lines some) in
          subst (λ (ls : List (List ℕ)). IsOff p h (due ∷ []) l ls 0 (if length old.text.now == 0 then what.Missing else part)) (sym some) (ap (λ (b : Bool). cond b what.Missing part) more ∙ same, λ last may. not line lines last some may)

  -- not this line
  pub line_bad : (part : What) (due : List ℕ) (old : Rest) → part ≢ what.More → IsFirstOther (due ∷ []) (whole_lines old.text.now) 0 → IsBad p h (same_lines part (due ∷ [])) 0 old (off_of old part)
  line_bad part due old one other = due_bad (Same part due) part 0 old refl one (λ line lines last first may. (subst (λ (ls : List (List ℕ)). IsFirstOther (due ∷ []) ls 0) first other) may.0)

-- ---- a part of all that is due

-- out of memory, no line is told
pub no_memory : {p : PlansData} {h : List Event} {dues : List Due} {least : ℕ} {old : Rest} {refusal : _} → IsBad p h dues least old (Memory refusal)
no_memory = record { off = λ line what e. absurd (cc) }

module _ {p : PlansData} {h : List Event} {all : List Due} {old : Rest} where
  pub taking_none : IsTaking p h all all old old 0
  taking_none = record { done = []; is = refl; taken = record { taken = (refl, refl); number = omega arith } }

  pub taking_more : {xs left more : List Due} {m n : ℕ} {mid new : Rest} → Begins more xs left → IsTaking p h all more old mid m → HasTaken p h xs m mid new n → IsTaking p h all left old new n
  taking_more {xs} {left} {more} {m} {n} {mid} {new} begins on taken = record {
    done = on.done ++ xs;
    is = on.is ∙ ap (λ (ds : List Due). on.done ++ ds) begins.is ∙ sym (append_assoc on.done xs left);
    taken = record {
      taken = taken_both p h on.done xs 0 (whole_lines old.text.now) m (whole_lines mid.text.now) n (whole_lines new.text.now) on.taken.taken taken.taken;
      number = (let one = on.taken.number in let two = taken.number in omega (arith, one, two, length_both on.done xs));
    };
  }

  pub taking_bad : {xs left more : List Due} {m : ℕ} {mid : Rest} {bad : Bad} → Begins more xs left → IsTaking p h all more old mid m → IsBad p h xs m mid bad → IsBad p h all 0 old bad
  taking_bad {xs} {left} {more} {m} {mid} begins on here = record {
    off = λ line what e.
        let off = here.off line what e in
        let one = on.taken.number in
        let two = off.1 in
        let k = length on.done + off.0 in
        let first = off_first p h xs left m (whole_lines mid.text.now) off.0 what off.2 in
        let later = off_later p h on.done (xs ++ left) 0 (whole_lines old.text.now) m (whole_lines mid.text.now) off.0 what on.taken.taken first in
        (k, omega (arith, one, two), subst (λ (ds : List Due). IsOff p h ds 0 (whole_lines old.text.now) k what) (sym (on.is ∙ ap (λ (ds : List Due). on.done ++ ds) begins.is)) later, off.3);
  }

  -- how a judge of all ends: where all is taken, and at the exit of a `?` where a part is not
  pub taking_all : {left : List Due} {n : ℕ} {new : Rest} → left ≡ [] → IsTaking p h all left old new n → HasTaken p h all 0 old new n
  taking_all {left} {n} {new} none on =
      subst (λ (ds : List Due). HasTaken p h ds 0 old new n) (sym (on.is ∙ ap (λ (ds : List Due). on.done ++ ds) none ∙ append-nil on.done)) on.taken

  pub judged_all : {T : Type 0} {value : T} {left : List Due} {new : Rest} → left ≡ [] → IsTaking p h all left old new 0 → Judges p h all old new (Ok value)
  judged_all none on = record { ok = taking_all none on; err = tt }

  pub judged_exit : {T : Type 0} {r : Result T Bad} {bad : Bad} {xs left more : List Due} {m : ℕ} {mid new : Rest} → (y : Bad) × (r ≡ Err y) × (y ≡ bad) → Begins more xs left → IsTaking p h all more old mid m → IsBad p h xs m mid bad
      → Judges p h all old new r
  judged_exit {new = new} exit begins on here =
      subst (λ r. Judges p h all old new r) (sym (exit.1 ∙ ap Err exit.2)) (record { ok = tt; err = taking_bad begins on here })

-- ---- what is at hand is the next

-- this stands at a place of a list
pub record At {A : Type 0} (xs : List A) (index : ℕ) (x : A) : Type 0 where
  pub is : drop index xs ≡ x ∷ drop (index + 1) xs

pub at_read : {A : Type 0} (xs : List A) (index : ℕ) (x : A) → index < length xs → x ≡ get_or xs index x → At xs index x
at_read {A} xs index x more there = record { is = drop_more xs index x more ∙ ap (λ (y : A). y ∷ drop (index + 1) xs) (sym there) }

pub at_range : (a n index k : ℕ) → index < n → a + index ≡ k → At (range_with_len a n) index k
at_range a n index k more next = at_read (range_with_len a n) index k (omega (arith, more, length-range_with_len a n)) (sym (get_or-range_with_len a n index k more ∙ next))

pub range_end : (a n index : ℕ) → n ≤ index → drop index (range_with_len a n) ≡ []
range_end a n index all = drop_all index (range_with_len a n) (omega (arith, all, length-range_with_len a n))

-- its lines, or its line
pub dues_next : {A : Type 0} (f : A → List Due) {xs : List A} {index : ℕ} {x : A} → At xs index x → Begins (flat_map f (drop index xs)) (f x) (flat_map f (drop (index + 1) xs))
dues_next f at = record { is = ap (flat_map f) at.is }

pub due_next : {A : Type 0} (f : A → Due) {xs : List A} {index : ℕ} {x : A} → At xs index x → Begins (map f (drop index xs)) (f x ∷ []) (map f (drop (index + 1) xs))
due_next f at = record { is = ap (map f) at.is }

-- a line of a part
pub line_there : (part : What) (lines : List (List ℕ)) (index : ℕ) {due : List ℕ} → index < length lines → due ≡ get_or lines index [] → Begins (same_lines part (drop index lines)) (same_lines part (due ∷ [])) (same_lines part (drop (index + 1) lines))
line_there part lines index {due} within is = record {
  is = ap (same_lines part) (drop_more lines index [] within) ∙ ap (λ (line : List ℕ). Same part line ∷ same_lines part (drop (index + 1) lines)) (sym is);
}

-- what is made on a sheet alone
pub alone : {own made old line : List ℕ} → own ≡ made → made ≡ old ++ line → old ≡ [] → own ≡ line
alone {line = line} is put none = is ∙ put ∙ ap (λ (old : List ℕ). old ++ line) none

-- lines of one part in two lists
pub same_both : (part : What) (xs ys : List (List ℕ)) → same_lines part (xs ++ ys) ≡ same_lines part xs ++ same_lines part ys
same_both part [] ys = refl
same_both part (x ∷ xs) ys = ap (λ (ds : List Due). Same part x ∷ ds) (same_both part xs ys)
