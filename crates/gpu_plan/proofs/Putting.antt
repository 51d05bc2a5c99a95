-- Words of a line that are put one after the other.
use Rattle.std.proofs.Common.{◌≡◌, ℕ, ◌+◌, ◌≤◌, ◌<◌, Bool, true, false, List, [], ◌∷◌, ◌++◌, length, take, map, Option, Some, None, refl, sym, ap, subst, ◌∙◌, arith, append_assoc, Result, Ok, Err}
use Rattle.std.specs.Prelude.{unwrap_or, is_ok, nat_le}
use Rattle.std.proofs.Common.{zero-add}
use Rattle.std.specs.List.{list_all}
use Rattle.std.proofs.lemmas.Bool.{le-leb, lt-leb, leb-true, leb-false, and_right}
use Rattle.std.proofs.lemmas.List.{take-append-le, append-nil}
use Rattle.script_lines.specs.Numbers.{hex_of, is_value, value_of}
use Rattle.gpu_cmd.specs.declared.areas.Span.{Span}
use Rattle.script_lines.specs.declared.fault.Kind.{Kind}
use Rattle.script_lines.specs.declared.fault.Kind.TheVariants.{Number, Place}
use Rattle.script_lines.specs.declared.fault.LineError.{LineError}
use Rattle.script_lines.specs.declared.fault.LineError.TheVariants as errors
use Rattle.script_lines.specs.Outcome.{◌>>=◌, unless, Fails}
use Rattle.script_lines.specs.Said.{put_begun, put_said, fill_begun, fill_said}
use Rattle.script_lines.proofs.Puts.{value_counts, values_stop, none_left, put_on, put_said_is, fill_on, fill_said_is}
use Rattle.gpu_plan.specs.declared.plan.Action.{Action}
use Rattle.gpu_plan.specs.declared.plan.Action.TheVariants.{Put}
use Rattle.gpu_plan.specs.Plans.{PlanData, is_closed}
use Rattle.gpu_plan.specs.Adding.{Draft, puts, acting, added, area_of, put_into, with_puts, with_fill}
use Rattle.gpu_plan.specs.Putting.{can_put}
use Rattle.gpu_plan.specs.declared.acting.TheConstants.{MOST_ACTIONS}
use Rattle.gpu_plan.proofs.Lawful.{length-puts}

values_said : (words : List (List ℕ)) → map value_of words ≡ map (λ (said : Option ℕ). unwrap_or said 0) (map hex_of words)
values_said [] = refl
values_said (word ∷ words) = ap (λ (values : List ℕ). value_of word ∷ values) (values_said words)

-- one more word is put
module _ (all rest : List (List ℕ)) (said : Option ℕ) (value : ℕ) (step : map hex_of all ≡ said ∷ map hex_of rest) (is : said ≡ Some value) where
  first_value : map value_of all ≡ value ∷ map value_of rest
  first_value = values_said all ∙ ap (map (λ (s : Option ℕ). unwrap_or s 0)) step ∙ rw (is, values_said rest) refl

  pub put_goes : (items total : List Action) (at : ℕ) → items ++ puts at (map value_of all) ≡ total → (items ++ Put at value ∷ []) ++ puts (at + 1) (map value_of rest) ≡ total
  put_goes items total at so_far = append_assoc items (Put at value ∷ []) (puts (at + 1) (map value_of rest)) ∙ rw first_value at so_far

pub behind_stays : (old items : List Action) (action : Action) → length old ≤ length items → take (length old) items ≡ old → take (length old) (items ++ action ∷ []) ≡ old
behind_stays old items action longer same = take-append-le (length old) items (action ∷ []) longer ∙ same

-- where the loop ends
module _ (words all : List (List ℕ)) (place end at : ℕ) (counted : at + length all ≡ place + length words) (same : list_all is_value all ≡ list_all is_value words) where
  pub stops_at_word : (rest : List (List ℕ)) (said : Option ℕ) → map hex_of all ≡ said ∷ map hex_of rest → said ≡ None → false ≡ can_put place end words
  stops_at_word rest said step is = rw (values_stop all rest words said step same is) refl

  pub stops_at_end : (rest : List (List ℕ)) (said : Option ℕ) → map hex_of all ≡ said ∷ map hex_of rest → at ≡ end → false ≡ can_put place end words
  stops_at_end rest said step is =
      let more = value_counts all rest said step in
      let long : nat_le (place + length words) end ≡ false = lt-leb (place + length words) end (omega arith) in
      sym (and_right (list_all is_value words) _ long)

  pub ends_well : map hex_of all ≡ [] → at ≤ end → true ≡ can_put place end words
  ends_well none within =
      let empty = none_left all none in
      let every : list_all is_value words ≡ true = sym same ∙ ap (list_all is_value) empty in
      let fits : nat_le (place + length words) end ≡ true = le-leb (place + length words) end (omega (arith, ap length empty)) in
      rw (every, fits) refl

pub all_put : (all : List (List ℕ)) (items total : List Action) (at : ℕ) → map hex_of all ≡ [] → items ++ puts at (map value_of all) ≡ total → items ≡ total
all_put all items total at none so_far = sym (append-nil items) ∙ rw (none_left all none) at so_far

-- ---- what puts do to a draft

pub acts : (d : Draft) (last : PlanData) → d.last ≡ Some last → is_closed last.actions ≡ false → acting d ≡ Ok last
unfolding acting
acts d last is unclosed = rw (is, unclosed) refl

module _ (memory : Option ℕ) (place : ℕ) (values : List ℕ) (d : Draft) (last : PlanData) (span : Span) (may : acting d ≡ Ok last) (area : area_of last.areas memory ≡ Some span) where
  over : (fits : Bool) → nat_le (place + length values) span.words ≡ fits → (fits ≡ true → MOST_ACTIONS < d.actions + length values) → is_ok (put_into memory place values d) ≡ false
  unfolding put_into added
  over false e far = rw (may, area, e) refl
  over true e far =
      let many = far refl in
      let long : nat_le (d.actions + length (puts (span.base + place) values)) MOST_ACTIONS ≡ false = lt-leb _ _ (omega (arith, length-puts (span.base + place) values)) in
      rw (may, area, e, long) refl

  -- values that go past the area, or past the most actions
  pub put_refused : (place + length values ≤ span.words → MOST_ACTIONS < d.actions + length values) → is_ok (put_into memory place values d) ≡ false
  put_refused far = over (nat_le (place + length values) span.words) refl (λ e. far (leb-true _ _ e))

-- no room up to the end, where all words are values
pub no_room : (place end : ℕ) (words : List (List ℕ)) → false ≡ can_put place end words → list_all is_value words ≡ true → end < place + length words
no_room place end words told every = leb-false (place + length words) end (sym (rw every at told))

-- ---- put lines and fill lines, by what they begin with

bind_same : {A B : Type 0} (said : Result A Kind) (f g : A → Result B Kind) → ((x : A) → f x ≡ g x) → (said >>= f) ≡ (said >>= g)
bind_same (Ok x) f g same = same x
bind_same (Err kind) f g same = refl

put_step : (said : ℕ × List ℕ) (d : Draft) → (acting d >>= (λ last. unless (nat_le (said.0 + length said.1) last.areas.ring) Place >>= (λ _. added (puts said.0 said.1) last d))) ≡ put_into None said.0 said.1 d
unfolding put_into
put_step said d = rw (zero-add said.0) refl

puts_is : (words : List (List ℕ)) (d : Draft) → with_puts words d ≡ (put_said words >>= (λ said. put_into None said.0 said.1 d))
unfolding with_puts
puts_is words d = bind_same (put_said words) _ _ (λ said. put_step said d)

fill_is : (words : List (List ℕ)) (d : Draft) → with_fill words d ≡ (fill_said words >>= (λ said. put_into (Some said.0) said.1 said.2 d))
unfolding with_fill put_into
fill_is words d = refl

whole_said : (place : ℕ) (vs : List (List ℕ)) → list_all is_value vs ≡ true → put_on (place, vs) ≡ Ok (place, map value_of vs)
whole_said place vs every = rw every refl

on_values : (every : Bool) (place : ℕ) (vs : List (List ℕ)) (said : ℕ × List ℕ) → list_all is_value vs ≡ every → put_on (place, vs) ≡ Ok said → (every ≡ true) × (said ≡ (place, map value_of vs))
on_values true place vs said e is = let same = rw e at is in (refl, cc)
on_values false place vs said e is = let same = rw e at is in absurd (err_is_no_ok Number said same)
  where
    err_is_no_ok : (kind : Kind) (x : ℕ × List ℕ) → Err kind ≡ Ok x → ⊥
    err_is_no_ok kind x same = cc

module _ (words : List (List ℕ)) (d : Draft) where
  pub puts_fail_said : (e : LineError) → Fails e (put_said words) → Fails e (with_puts words d)
  puts_fail_said (errors.Memory refusal) h = tt
  puts_fail_said (errors.Refused kind) h = puts_is words d ∙ rw h refl

  pub puts_fail : (e : LineError) → Fails e (put_begun words) → Fails e (with_puts words d)
  puts_fail (errors.Memory refusal) h = tt
  puts_fail (errors.Refused kind) h = puts_is words d ∙ rw (put_said_is words, h) refl

  module _ (place : ℕ) (vs : List (List ℕ)) (begun : put_begun words ≡ Ok (place, vs)) where
    pub puts_put : (next : Draft) → list_all is_value vs ≡ true → put_into None place (map value_of vs) d ≡ Ok next → with_puts words d ≡ Ok next
    puts_put next every is = puts_is words d ∙ rw (put_said_is words, begun, whole_said place vs every) is

    pub puts_refused : (same : Draft) (said : ℕ × List ℕ) (kind : Kind) → put_said words ≡ Ok said → same ≡ d → (list_all is_value vs ≡ true → is_ok (put_into None place (map value_of vs) d) ≡ false)
        → (is_ok (put_into None said.0 said.1 same) ≡ false → put_into None said.0 said.1 same ≡ Err kind) → with_puts words d ≡ Err kind
    puts_refused same said kind is stays refused fault =
        let on : put_on (place, vs) ≡ Ok said = sym (put_said_is words ∙ rw begun refl) ∙ is in
        let read = on_values (list_all is_value vs) place vs said refl on in
        let bad = refused read.0 in
        let at : is_ok (put_into None said.0 said.1 same) ≡ false = rw (read.1, stays) bad in
        puts_is words d ∙ rw is (subst (λ (draft : Draft). put_into None said.0 said.1 draft ≡ Err kind) stays (fault at))

  pub fill_fail_said : (e : LineError) → Fails e (fill_said words) → Fails e (with_fill words d)
  fill_fail_said (errors.Memory refusal) h = tt
  fill_fail_said (errors.Refused kind) h = fill_is words d ∙ rw h refl

  pub fill_fail : (e : LineError) → Fails e (fill_begun words) → Fails e (with_fill words d)
  fill_fail (errors.Memory refusal) h = tt
  fill_fail (errors.Refused kind) h = fill_is words d ∙ rw (fill_said_is words, h) refl

  module _ (memory place : ℕ) (vs : List (List ℕ)) (begun : fill_begun words ≡ Ok (memory, place, vs)) where
    pub fill_put : (next : Draft) → list_all is_value vs ≡ true → put_into (Some memory) place (map value_of vs) d ≡ Ok next → with_fill words d ≡ Ok next
    fill_put next every is = fill_is words d ∙ rw (fill_said_is words, begun, whole_said place vs every) is

    fill_values : (every : Bool) (said : ℕ × ℕ × List ℕ) → list_all is_value vs ≡ every → fill_on (memory, place, vs) ≡ Ok said → (every ≡ true) × (said ≡ (memory, place, map value_of vs))
    fill_values true said e is = let same = rw e at is in (refl, cc)
    fill_values false said e is = let same = rw e at is in absurd (no_ok Number said same)
      where
        no_ok : (kind : Kind) (x : ℕ × ℕ × List ℕ) → Err kind ≡ Ok x → ⊥
        no_ok kind x same = cc

    pub fill_refused : (same : Draft) (said : ℕ × ℕ × List ℕ) (kind : Kind) → fill_said words ≡ Ok said → same ≡ d → (list_all is_value vs ≡ true → is_ok (put_into (Some memory) place (map value_of vs) d) ≡ false)
        → (is_ok (put_into (Some said.0) said.1 said.2 same) ≡ false → put_into (Some said.0) said.1 said.2 same ≡ Err kind) → with_fill words d ≡ Err kind
    fill_refused same said kind is stays refused fault =
        let on : fill_on (memory, place, vs) ≡ Ok said = sym (fill_said_is words ∙ rw begun refl) ∙ is in
        let read = fill_values (list_all is_value vs) said refl on in
        let bad = refused read.0 in
        let at : is_ok (put_into (Some said.0) said.1 said.2 same) ≡ false = rw (read.1, stays) bad in
        fill_is words d ∙ rw is (subst (λ (draft : Draft). put_into (Some said.0) said.1 said.2 draft ≡ Err kind) stays (fault at))
