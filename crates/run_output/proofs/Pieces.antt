-- Pieces of a text, one after the other.
use Rattle.std.proofs.Common.{◌≡◌, ℕ, ◌+◌, ◌<◌, ◌≤◌, List, [], ◌∷◌, ◌++◌, Option, Some, None, inl, inr, length, take, drop, get_or, sym, ap, subst, ◌∙◌, append_assoc, arith}
use Rattle.std.specs.Prelude.{slice_index_or, Result, Ok, Err, IsErr}
use Rattle.std.specs.List.{concat}
use Rattle.std.specs.Io.KnownBytes.{Appends}
use Rattle.std.proofs.lemmas.List.{append-nil, take_more, take-append-drop, length-append}
use Rattle.std.proofs.lemmas.List.Folds.{concat-append}
use Rattle.gpu_io.specs.Faults.{HasRisen}
use Rattle.run_output.specs.Pieces.{AppendsFront, Adds, IsTextPut, Puts}
use Rattle.run_output.proofs.Appending.{Appends-then}

-- nothing more is written
pub Appends-nothing : (a : Option (List ℕ)) → Appends a a []
Appends-nothing None = tt
Appends-nothing (Some bytes) = sym (append-nil bytes)

-- what follows a first part of two texts is what follows the part of the second after the first
joined : (first second later f g s t : List ℕ) → first ++ g ≡ f ++ s → second ++ later ≡ g ++ t → (first ++ second) ++ later ≡ f ++ (s ++ t)
joined first second later f g s t one two =
    append_assoc first second later ∙ ap (λ (r : List ℕ). first ++ r) two ∙ sym (append_assoc first g t) ∙ ap (λ (r : List ℕ). r ++ t) one ∙ append_assoc f s t

-- a front of a text is a front of the text with whatever follows it
pub front_more : (a b : Option (List ℕ)) (s t : List ℕ) → AppendsFront a b s → AppendsFront a b (s ++ t)
front_more a b s t front = (front.0, front.1 ++ t, sym (append_assoc front.0 front.1 t) ∙ ap (λ (r : List ℕ). r ++ t) front.2, front.3)

-- a fault that came later rose the count
risen_later : (a b c : ℕ) → a ≤ b → HasRisen b c → HasRisen a c
risen_later a b c later (inl risen) = inl (omega arith)
risen_later a b c later (inr last) = inr last

-- two texts that are put one after the other are put as one
put_then : (a b c : Option (List ℕ)) (f g h s t : List ℕ) → IsTextPut a f b g s → IsTextPut b g c h t → IsTextPut a f c h (s ++ t)
put_then a b c f g h s t first second =
    record { given = first.given ++ second.given; whole = joined first.given second.given h f g s t first.whole second.whole; appended = Appends-then a b c first.given second.given first.appended second.appended }

-- where a text is put, and of the gathered text and the next one a front is written, it is one of both together
cut_then : (a b c : Option (List ℕ)) (f g s t : List ℕ) → IsTextPut a f b g s → AppendsFront b c (g ++ t) → AppendsFront a c (f ++ (s ++ t))
cut_then a b c f g s t first front =
    (first.given ++ front.0, front.1, joined first.given front.0 front.1 f g s t first.whole front.2, Appends-then a b c first.given front.0 first.appended front.3)

pub nothing_put : (a : Option (List ℕ)) (f : List ℕ) → IsTextPut a f a f []
nothing_put a f = record { given = []; whole = sym (append-nil f); appended = Appends-nothing a }

module _ {K : Type 0} (w : K → Option (List ℕ)) (n : K → ℕ) where
  -- a text that is put after one that was put: both are put as one, however the second ends
  pub puts_then : {T U E : Type 0} (a b c : K) (f g h : List ℕ) (done : T) (result : Result U E) (s t : List ℕ) → Puts {T = T} {E = E} w n a f b g (Ok done) s → Puts w n b g c h result t → Puts w n a f c h result (s ++ t)
  puts_then a b c f g h done (Ok value) s t first second =
      record { all = put_then (w a) (w b) (w c) f g h s t first.all second.all; front = tt; fault = tt; later = omega (arith, first.later, second.later) }
  puts_then a b c f g h done (Err error) s t first second =
      record { all = tt; front = cut_then (w a) (w b) (w c) f g s t first.all second.front; fault = risen_later (n a) (n b) (n c) first.later second.fault; later = omega (arith, first.later, second.later) }

  -- a text that is cut by a fault is cut with whatever follows it
  pub puts_failed : {T U E F : Type 0} (a b : K) (f g h : List ℕ) (error : E) (result : Result U F) (s t : List ℕ) → IsErr result → Puts {T = T} {E = E} w n a f b g (Err error) s → Puts w n a f b h result (s ++ t)
  puts_failed a b f g h error (Ok value) s t fails cut = absurd (cc fails)
  puts_failed a b f g h error (Err other) s t fails cut =
      record { all = tt; front = subst (AppendsFront (w a) (w b)) (append_assoc f s t) (front_more (w a) (w b) (f ++ s) t cut.front); fault = cut.fault; later = cut.later }

  -- what is put on a page without lines, which is then given away, is added
  pub puts_away : {T U E : Type 0} (a b c : K) (f g : List ℕ) (done : T) (result : Result U E) (text : List ℕ) → f ≡ [] → Puts {T = T} {E = E} w n a f b g (Ok done) text → Adds w n b c result g → Adds w n a c result text
  puts_away a b c f g done (Ok value) text none put given =
      let whole : put.all.given ++ g ≡ text = put.all.whole ∙ ap (λ (r : List ℕ). r ++ text) none in
      record { all = subst (Appends (w a) (w c)) whole (Appends-then (w a) (w b) (w c) put.all.given g put.all.appended given.all); front = tt; fault = tt; later = omega (arith, put.later, given.later) }
  puts_away a b c f g done (Err error) text none put given =
      let front : AppendsFront (w a) (w c) text = (
        put.all.given ++ given.front.0,
        given.front.1,
        append_assoc put.all.given given.front.0 given.front.1 ∙ ap (λ (r : List ℕ). put.all.given ++ r) given.front.2 ∙ put.all.whole ∙ ap (λ (r : List ℕ). r ++ text) none,
        Appends-then (w a) (w b) (w c) put.all.given given.front.0 put.all.appended given.front.3,
      ) in
      record { all = tt; front = front; fault = risen_later (n a) (n b) (n c) put.later given.fault; later = omega (arith, put.later, given.later) }

  pub failed_away : {T U E F : Type 0} (a b : K) (f g : List ℕ) (error : E) (result : Result U F) (text : List ℕ) → f ≡ [] → IsErr result → Puts {T = T} {E = E} w n a f b g (Err error) text → Adds w n a b result text
  failed_away a b f g error (Ok value) text none fails cut = absurd (cc fails)
  failed_away a b f g error (Err other) text none fails cut =
      record { all = tt; front = subst (λ (r : List ℕ). AppendsFront (w a) (w b) (r ++ text)) none cut.front; fault = cut.fault; later = cut.later }

  -- nothing is put
  pub puts_nothing : {T E : Type 0} (a : K) (f : List ℕ) (done : T) → Puts {T = T} {E = E} w n a f a f (Ok done) []
  puts_nothing a f done = record { all = nothing_put (w a) f; front = tt; fault = tt; later = omega arith }

  -- all that is gathered is given away, and nothing is put
  pub puts_all : {T E : Type 0} (a b : K) (f g : List ℕ) (result : Result T E) → g ≡ [] → Adds w n a b result f → Puts w n a f b g result []
  puts_all a b f g (Ok done) none given =
      record { all = record { given = f; whole = ap (λ (r : List ℕ). f ++ r) none; appended = given.all }; front = tt; fault = tt; later = given.later }
  puts_all a b f g (Err error) none given = record { all = tt; front = front_more (w a) (w b) f [] given.front; fault = given.fault; later = given.later }

  -- where a text stands after the gathered text, and nothing is put after both, the text is put
  pub puts_more : {T E : Type 0} (a b : K) (f both g text : List ℕ) (result : Result T E) → both ≡ f ++ text → Puts w n a both b g result [] → Puts w n a f b g result text
  puts_more a b f both g text (Ok done) is put =
      record { all = record { given = put.all.given; whole = put.all.whole ∙ append-nil both ∙ is; appended = put.all.appended }; front = tt; fault = tt; later = put.later }
  puts_more a b f both g text (Err error) is put =
      record { all = tt; front = subst (AppendsFront (w a) (w b)) (append-nil both ∙ is) put.front; fault = put.fault; later = put.later }

  -- the gathered text is given away, and then a text is written
  pub puts_behind : {T U E : Type 0} (a b c : K) (f g text : List ℕ) (done : T) (result : Result U E) → g ≡ [] → Adds {T = T} {E = E} w n a b (Ok done) f → Adds w n b c result text → Puts w n a f c g result text
  puts_behind a b c f g text done (Ok value) none first second =
      record { all = record { given = f ++ text; whole = ap (λ (r : List ℕ). (f ++ text) ++ r) none ∙ append-nil (f ++ text); appended = Appends-then (w a) (w b) (w c) f text first.all second.all }; front = tt; fault = tt; later = omega (arith, first.later, second.later) }
  puts_behind a b c f g text done (Err error) none first second =
      let front : AppendsFront (w a) (w c) (f ++ text) = (
        f ++ second.front.0,
        second.front.1,
        append_assoc f second.front.0 second.front.1 ∙ ap (λ (r : List ℕ). f ++ r) second.front.2,
        Appends-then (w a) (w b) (w c) f second.front.0 first.all second.front.3,
      ) in
      record { all = tt; front = front; fault = risen_later (n a) (n b) (n c) first.later second.fault; later = omega (arith, first.later, second.later) }

  -- of the gathered text a front is given away, and the text is not written
  pub failed_before : {T U E F : Type 0} (a b : K) (f g text : List ℕ) (error : E) (result : Result U F) → IsErr result → Adds {T = T} {E = E} w n a b (Err error) f → Puts w n a f b g result text
  failed_before a b f g text error (Ok value) fails cut = absurd (cc fails)
  failed_before a b f g text error (Err other) fails cut = record { all = tt; front = front_more (w a) (w b) f text cut.front; fault = cut.fault; later = cut.later }

-- the first lines and one more
concat_more : (lines : List (List ℕ)) (i : ℕ) → i < length lines → concat (take i lines) ++ slice_index_or lines i [] ≡ concat (take (i + 1) lines)
concat_more lines i lt =
    ap (λ (r : List ℕ). concat (take i lines) ++ r) (sym (append-nil (get_or lines i [])))
    ∙ sym (concat-append (take i lines) (get_or lines i [] ∷ []))
    ∙ ap concat (sym (take_more lines i [] lt))

module _ {K : Type 0} (w : K → Option (List ℕ)) (n : K → ℕ) where
  -- a line that is put after lines that are put
  pub line_put : {T U E F : Type 0} (a b c : K) (f g h : List ℕ) (lines : List (List ℕ)) (i : ℕ) (done : T) (next : U) → i < length lines → Puts {T = T} {E = E} w n a f b g (Ok done) (concat (take i lines)) → Puts {T = U} {E = F} w n b g c h (Ok next) (slice_index_or lines i []) → Puts {T = T} {E = E} w n a f c h (Ok done) (concat (take (i + 1) lines))
  line_put a b c f g h lines i done next lt put more =
      let both : Puts w n a f c h (Ok done) (concat (take i lines) ++ slice_index_or lines i []) = puts_then w n a b c f g h done (Ok done) (concat (take i lines)) (slice_index_or lines i []) put (record { all = more.all; front = tt; fault = tt; later = more.later }) in
      subst (Puts w n a f c h (Ok done)) (concat_more lines i lt) both

  -- a line that is cut, after lines that are put, cuts all lines
  pub line_failed : {T U V E F G : Type 0} (a b c : K) (f g h k : List ℕ) (lines : List (List ℕ)) (i : ℕ) (done : T) (error : F) (result : Result V G) → i < length lines → IsErr result → Puts {T = T} {E = E} w n a f b g (Ok done) (concat (take i lines)) → Puts {T = U} {E = F} w n b g c h (Err error) (slice_index_or lines i []) → Puts w n a f c k result (concat lines)
  line_failed {T = T} {F = F} a b c f g h k lines i done error result lt fails put cut =
      let here : Puts {T = T} {E = F} w n a f c h (Err error) (concat (take i lines) ++ slice_index_or lines i []) = puts_then w n a b c f g h done (Err error) (concat (take i lines)) (slice_index_or lines i []) (record { all = put.all; front = tt; fault = tt; later = put.later }) (record { all = tt; front = cut.front; fault = cut.fault; later = cut.later }) in
      let whole : concat (take (i + 1) lines) ++ concat (drop (i + 1) lines) ≡ concat lines = sym (concat-append (take (i + 1) lines) (drop (i + 1) lines)) ∙ ap concat (take-append-drop (i + 1) lines) in
      let cut_here : Puts {T = T} {E = F} w n a f c h (Err error) (concat (take (i + 1) lines)) = subst (Puts w n a f c h (Err error)) (concat_more lines i lt) here in
      subst (Puts w n a f c k result) whole (puts_failed w n a c f h k error result (concat (take (i + 1) lines)) (concat (drop (i + 1) lines)) fails cut_here)

-- where all lines stay below a limit, the next one after those that are put does so too
pub line_below : {K T E : Type 0} (w : K → Option (List ℕ)) (n : K → ℕ) (a b : K) (f g : List ℕ) (lines : List (List ℕ)) (i limit : ℕ) (done : T) → i < length lines → Puts {T = T} {E = E} w n a f b g (Ok done) (concat (take i lines))
    → length f + length (concat lines) < limit → length g + length (slice_index_or lines i []) < limit
line_below w n a b f g lines i limit done lt put all =
    let gathered = length-append put.all.given g in
    let put_so = length-append f (concat (take i lines)) in
    let same : length (put.all.given ++ g) ≡ length (f ++ concat (take i lines)) = ap length put.all.whole in
    let more : length (concat (take i lines) ++ slice_index_or lines i []) ≡ length (concat (take (i + 1) lines)) = ap length (concat_more lines i lt) in
    let one = length-append (concat (take i lines)) (slice_index_or lines i []) in
    let whole : length (concat (take (i + 1) lines) ++ concat (drop (i + 1) lines)) ≡ length (concat lines) = ap length (sym (concat-append (take (i + 1) lines) (drop (i + 1) lines)) ∙ ap concat (take-append-drop (i + 1) lines)) in
    let rest = length-append (concat (take (i + 1) lines)) (concat (drop (i + 1) lines)) in
    omega (arith, gathered, put_so, same, more, one, whole, rest)
