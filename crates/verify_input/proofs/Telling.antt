-- The lines of dumps and of looks: what is read at its place decides whether a line may stand there.
use Rattle.verify_input.proofs.Names.{◌≡◌, ℕ, ◌+◌, ◌^◌, ◌<◌, ◌≤◌, Bool, true, false, Result, Ok, Err, List, [], ◌∷◌, ◌++◌, length, length-append, refl, sym, ap, subst, ◌∙◌, append_assoc, arith, concat, texel_sum, PlansData, Event, MayDump, hex8, dump_text, view_text, length-hex8, sum_after, whole_lines, Same, Dump, Look, LastLook, same_lines, off_of, HasTaken, IsBad, Judges, IsLook, EndsWith, BeginsWithLook, Rest, Bad}
use Rattle.verify_input.specs.declared.what.What.TheVariants as what
use Rattle.verify_input.proofs.Wholes.{concat_whole}
use Rattle.verify_input.proofs.Feeds.{dump_front}
use Rattle.verify_input.proofs.Dues.{taken_as, bad_as, due_bad}

-- ---- dumps

dump_length : (s place index : ℕ) → length (dump_front s place index) + 9 ≡ length (dump_text s place index 0)
unfolding dump_text
dump_length s place index =
    let one = length-append (dump_front s place index ++ hex8 0) (10 ∷ []) in
    let two = length-append (dump_front s place index) (hex8 0) in
    let eight = length-hex8 0 in
    omega (arith, one, two, eight)

dump_parts : (s place index value : ℕ) (more : List ℕ) → dump_text s place index value ++ more ≡ dump_front s place index ++ hex8 value ++ 10 ∷ more
unfolding dump_text
dump_parts s place index value more = append_assoc (dump_front s place index ++ hex8 value) (10 ∷ []) more

ends_with : (s : ℕ) (dump : ℕ × ℕ) (text line : List ℕ) (lines : List (List ℕ)) (value : ℕ) → whole_lines text ≡ line ∷ lines → line ≡ dump_text s dump.0 dump.1 value → value < 2 ^ 32 → EndsWith text (length (dump_text s dump.0 dump.1 0)) value
ends_with s dump text line lines value first is small = record {
  front = dump_front s dump.0 dump.1;
  rest = concat lines;
  is = sym (concat_whole text) ∙ ap concat first ∙ ap (λ (own : List ℕ). own ++ concat lines) is ∙ dump_parts s dump.0 dump.1 value (concat lines);
  counted = dump_length s dump.0 dump.1;
  small = small;
}

-- what is read at the place of its value: no line has another, and a test says whether it may be told
pub record Told (p : PlansData) (h : List Event) (s : ℕ) (dump : ℕ × ℕ) (old : Rest) (value : ℕ) (test : Bool) : Type 0 where
  pub reads : (other : ℕ) → EndsWith old.text.now (length (dump_text s dump.0 dump.1 0)) other → value ≡ other
  pub small : (other : ℕ) → MayDump p h s dump other → other < 2 ^ 32
  pub right : test ≡ true → MayDump p h s dump value
  pub all : MayDump p h s dump value → test ≡ true

module _ {p : PlansData} {h : List Event} {s : ℕ} {dump : ℕ × ℕ} {old : Rest} {value : ℕ} {test : Bool} (told : Told p h s dump old value test) where
  read : (line : List ℕ) (lines : List (List ℕ)) (other : ℕ) → whole_lines old.text.now ≡ line ∷ lines → MayDump p h s dump other → line ≡ dump_text s dump.0 dump.1 other → value ≡ other
  read line lines other first may is = told.reads other (ends_with s dump old.text.now line lines other first is (told.small other may))

  -- what is read is no value that may be told
  pub dump_bad : test ≡ false → IsBad p h (Dump s dump ∷ []) 0 old (off_of old what.Dump)
  dump_bad not = due_bad p h (Dump s dump) what.Dump 0 old refl (λ e. cc) (λ line lines then first may.
      let same = read line lines may.0 first may.1 may.2 in
      let is : test ≡ true = told.all (subst (MayDump p h s dump) (sym same) may.1) in
      absurd (cc))

  -- it is one, and then its line is the only one
  pub dump_judged : {T : Type 0} {new : Rest} → test ≡ true → (r : Result T Bad) → Judges p h (same_lines what.Dump (dump_text s dump.0 dump.1 value ∷ [])) old new r → Judges p h (Dump s dump ∷ []) old new r
  dump_judged {new = new} is (Ok done) judged = record {
    ok = taken_as p h (Same what.Dump (dump_text s dump.0 dump.1 value)) (Dump s dump) 0 0 0 0 old new (λ line stands. (value, told.right is, stands.0, stands.1)) judged.ok;
    err = tt;
  }
  dump_judged is (Err bad) judged = record {
    ok = tt;
    err = bad_as p h (Same what.Dump (dump_text s dump.0 dump.1 value)) (Dump s dump) 0 0 old bad refl (λ line lines then first stands.
        let same = read line lines stands.0 first stands.1 stands.2 in
        (0, (stands.2 ∙ ap (dump_text s dump.0 dump.1) (sym same), refl))) judged.err;
  }

-- ---- looks

sum_small : (p : PlansData) (h : List Event) (count : ℕ) → sum_after p h count < 2 ^ 32
unfolding texel_sum
sum_small p h count = omega arith

-- what is read where a look is due, which no line has otherwise
pub record Seen (p : PlansData) (h : List Event) (viewer : ℕ) (old : Rest) (look : ℕ × ℕ) : Type 0 where
  pub known : viewer < 2 ^ 32
  pub few : length h < 2 ^ 32
  pub reads : (other : ℕ × ℕ) → BeginsWithLook old.text.now other → look ≡ other

module _ {p : PlansData} {h : List Event} {viewer : ℕ} {old : Rest} {look : ℕ × ℕ} (seen : Seen p h viewer old look) where
  read_look : (line : List ℕ) (lines : List (List ℕ)) (count : ℕ) → whole_lines old.text.now ≡ line ∷ lines → count ≤ length h → line ≡ view_text viewer count (sum_after p h count) → look ≡ (count, sum_after p h count)
  read_look line lines count first within is = seen.reads (count, sum_after p h count) (record {
    viewer = viewer;
    rest = lines;
    is = first ∙ ap (λ (own : List ℕ). own ∷ lines) is;
    known = seen.known;
    few = (let few = seen.few in omega (arith, within, few));
    small = sum_small p h count;
  })

  -- it is no look that may stand there
  pub look_bad : {least : ℕ} → (IsLook p h least look → ⊥) → IsBad p h (Look viewer ∷ []) least old (off_of old what.View)
  look_bad {least} not = due_bad p h (Look viewer) what.View least old refl (λ e. cc) (λ line lines then first may.
      not (subst (IsLook p h least) (sym (read_look line lines then first may.1 may.2)) (record { from = may.0; few = may.1; sum = refl })))

  pub look_taken : {least : ℕ} {new : Rest} → IsLook p h least look → HasTaken p h (same_lines what.View (view_text viewer look.0 look.1 ∷ [])) 0 old new 0 → HasTaken p h (Look viewer ∷ []) least old new look.0
  look_taken {least} {new} is taken =
      taken_as p h (Same what.View (view_text viewer look.0 look.1)) (Look viewer) 0 least 0 look.0 old new
      (λ line stands. (is.from, is.few, stands.0 ∙ ap (view_text viewer look.0) is.sum)) taken

  pub look_off : {least : ℕ} {bad : Bad} → IsBad p h (same_lines what.View (view_text viewer look.0 look.1 ∷ [])) 0 old bad → IsBad p h (Look viewer ∷ []) least old bad
  look_off {least} {bad} off =
      bad_as p h (Same what.View (view_text viewer look.0 look.1)) (Look viewer) 0 least old bad refl
      (λ line lines then first may. (0, (may.2 ∙ ap (λ (l : ℕ × ℕ). view_text viewer l.0 l.1) (sym (read_look line lines then first may.1 may.2)), refl))) off

-- the last look is one of all events
module _ {p : PlansData} {h : List Event} {viewer all m : ℕ} {old : Rest} (is : all ≡ length h) where
  pub last_taken : {then : ℕ} {new : Rest} → HasTaken p h (Look viewer ∷ []) all old new then → HasTaken p h (LastLook viewer ∷ []) m old new 0
  last_taken {then} {new} taken =
      taken_as p h (Look viewer) (LastLook viewer) all m then 0 old new (λ line may.
      let same : then ≡ length h = omega (arith, may.0, may.1) in
      (may.2 ∙ ap (λ n. view_text viewer n (sum_after p h n)) same, refl)) taken

  pub last_bad : {bad : Bad} → IsBad p h (Look viewer ∷ []) all old bad → IsBad p h (LastLook viewer ∷ []) m old bad
  last_bad {bad} off =
      bad_as p h (Look viewer) (LastLook viewer) all m old bad refl (λ line lines then first may. (length h, (omega (arith, is), omega arith, may.0))) off
