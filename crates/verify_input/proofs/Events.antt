-- The lines of events, cut at their spaces.
use Rattle.std.proofs.Common.{◌≡◌, ℕ, ◌^◌, ◌<◌, Bool, true, false, cond, Option, Some, None, List, [], ◌∷◌, map, refl, sym, subst}
use Rattle.std.specs.Prelude.{codes, bytes_eq}
use Rattle.std.specs.List.{All}
use Rattle.std.proofs.lemmas.Slice.Eq.{bytes_eq-Decides}
use Rattle.gpu_cmd.specs.declared.error.CmdError.TheVariants.{InvalidSize, OutOfBounds, UnknownCommand, InvalidArguments, Quota}
use Rattle.gpu_cmd.specs.Errors.{code_of}
use Rattle.gpu_journal.specs.declared.event.Event.{Event}
use Rattle.gpu_journal.specs.declared.event.Event.TheVariants.{Order, Step, Finish, Lost, Close}
use Rattle.gpu_journal.specs.declared.event.Why.{Why}
use Rattle.gpu_journal.specs.declared.event.Why.TheVariants.{Error, Memory}
use Rattle.journal_text.specs.Digits.{numeral}
use Rattle.verify_input.specs.Said.{◌>>=◌, own_number, words_said, why_said, order_said, step_said, finish_said, lost_with, lost_said, close_said, said_by, pieces_said}
use Rattle.verify_input.specs.Reading.{IsWord, HasNumbersOfWords}
use Rattle.verify_input.proofs.Numbers.{number_told_own, own_number_there}
use Rattle.verify_input.proofs.Words.{word_piece, words_told, words_there}

-- ---- the pieces of an event

abbrev pub why_piece : Why → List ℕ
why_piece (Error error) = numeral (code_of error)
why_piece Memory = codes "memory"

abbrev pub event_pieces : Event → List (List ℕ)
event_pieces (Order stream order place) = codes "order" ∷ numeral stream ∷ numeral order ∷ numeral place ∷ []
event_pieces (Step stream words) = codes "step" ∷ numeral stream ∷ map word_piece words
event_pieces (Finish stream order) = codes "finish" ∷ numeral stream ∷ numeral order ∷ []
event_pieces (Lost stream why words) = codes "lost" ∷ numeral stream ∷ why_piece why ∷ map word_piece words
event_pieces (Close stream) = codes "close" ∷ numeral stream ∷ []

-- the pieces are those of this event, which is of numbers of 32 bits
abbrev Told : List (List ℕ) → Event → Type 0
Told pieces event = (pieces ≡ event_pieces event) × HasNumbersOfWords event

same_event : (pieces : List (List ℕ)) (a b : Event) → Some a ≡ Some b → Told pieces a → Told pieces b
same_event pieces a b e told = let is : a ≡ b = cc in subst (Told pieces) is told

-- ---- what the pieces after a first word say

order_told : (pieces : List (List ℕ)) (event : Event) → order_said pieces ≡ Some event → Told (codes "order" ∷ pieces) event
unfolding order_said
order_told (s ∷ n ∷ c ∷ []) event e = by (own_number s) (own_number n) (own_number c) refl refl refl e
  where
    by : (stream order place : Option ℕ) → own_number s ≡ stream → own_number n ≡ order → own_number c ≡ place → (stream >>= (λ s. order >>= (λ n. place >>= (λ c. Some (Order s n c))))) ≡ Some event → Told (codes "order" ∷ s ∷ n ∷ c ∷ []) event
    by (Some a) (Some b) (Some d) es en ec e =
        let first = number_told_own s a es in
        let second = number_told_own n b en in
        let third = number_told_own c d ec in
        same_event (codes "order" ∷ s ∷ n ∷ c ∷ []) (Order a b d) event e ((λ i. codes "order" ∷ first.0 i ∷ second.0 i ∷ third.0 i ∷ []), (first.1, second.1, third.1))
    by None order place es en ec e = absurd (cc)
    by (Some a) None place es en ec e = absurd (cc)
    by (Some a) (Some b) None es en ec e = absurd (cc)
order_told _ event e = absurd (cc)

finish_told : (pieces : List (List ℕ)) (event : Event) → finish_said pieces ≡ Some event → Told (codes "finish" ∷ pieces) event
unfolding finish_said
finish_told (s ∷ n ∷ []) event e = by (own_number s) (own_number n) refl refl e
  where
    by : (stream order : Option ℕ) → own_number s ≡ stream → own_number n ≡ order → (stream >>= (λ s. order >>= (λ n. Some (Finish s n)))) ≡ Some event → Told (codes "finish" ∷ s ∷ n ∷ []) event
    by (Some a) (Some b) es en e =
        let first = number_told_own s a es in
        let second = number_told_own n b en in
        same_event (codes "finish" ∷ s ∷ n ∷ []) (Finish a b) event e ((λ i. codes "finish" ∷ first.0 i ∷ second.0 i ∷ []), (first.1, second.1))
    by None order es en e = absurd (cc)
    by (Some a) None es en e = absurd (cc)
finish_told _ event e = absurd (cc)

close_told : (pieces : List (List ℕ)) (event : Event) → close_said pieces ≡ Some event → Told (codes "close" ∷ pieces) event
unfolding close_said
close_told (s ∷ []) event e = by (own_number s) refl e
  where
    by : (stream : Option ℕ) → own_number s ≡ stream → (stream >>= (λ s. Some (Close s))) ≡ Some event → Told (codes "close" ∷ s ∷ []) event
    by (Some a) es e = let first = number_told_own s a es in same_event (codes "close" ∷ s ∷ []) (Close a) event e ((λ i. codes "close" ∷ first.0 i ∷ []), first.1)
    by None es e = absurd (cc)
close_told _ event e = absurd (cc)

step_told : (pieces : List (List ℕ)) (event : Event) → step_said pieces ≡ Some event → Told (codes "step" ∷ pieces) event
unfolding step_said
step_told [] event e = absurd (cc)
step_told (s ∷ pieces) event e = by (own_number s) (words_said pieces) refl refl e
  where
    by : (stream : Option ℕ) (words : Option (List (ℕ × ℕ))) → own_number s ≡ stream → words_said pieces ≡ words → (stream >>= (λ s. words >>= (λ ws. Some (Step s ws)))) ≡ Some event → Told (codes "step" ∷ s ∷ pieces) event
    by (Some a) (Some ws) es ew e =
        let first = number_told_own s a es in
        let more = words_told pieces ws ew in
        same_event (codes "step" ∷ s ∷ pieces) (Step a ws) event e ((λ i. codes "step" ∷ first.0 i ∷ more.0 i), (first.1, more.1))
    by None words es ew e = absurd (cc)
    by (Some a) None es ew e = absurd (cc)

-- the word is this text
told_word : (word text : List ℕ) → bytes_eq word text ≡ true → word ≡ text
told_word word text e = (bytes_eq-Decides word text).0 e

same_why : (word : List ℕ) (a b : Why) → Some a ≡ Some b → word ≡ why_piece a → word ≡ why_piece b
same_why word a b e told = let is : a ≡ b = cc in subst (λ (why : Why). word ≡ why_piece why) is told

why_told : (word : List ℕ) (why : Why) → why_said word ≡ Some why → word ≡ why_piece why
unfolding numeral
why_told word why e = by (bytes_eq word (codes "memory")) (bytes_eq word (codes "1")) (bytes_eq word (codes "2")) (bytes_eq word (codes "3")) (bytes_eq word (codes "4")) (bytes_eq word (codes "6")) refl refl refl refl refl refl e
  where
    by : (a b c d f g : Bool) → bytes_eq word (codes "memory") ≡ a → bytes_eq word (codes "1") ≡ b → bytes_eq word (codes "2") ≡ c → bytes_eq word (codes "3") ≡ d → bytes_eq word (codes "4") ≡ f → bytes_eq word (codes "6") ≡ g
        → cond a (Some Memory) (cond b (Some (Error InvalidSize)) (cond c (Some (Error OutOfBounds)) (cond d (Some (Error UnknownCommand)) (cond f (Some (Error InvalidArguments)) (cond g (Some (Error Quota)) None))))) ≡ Some why → word ≡ why_piece why
    by true b c d f g ea eb ec ed ef eg e = same_why word Memory why e (told_word word (codes "memory") ea)
    by false true c d f g ea eb ec ed ef eg e = same_why word (Error InvalidSize) why e (told_word word (codes "1") eb)
    by false false true d f g ea eb ec ed ef eg e = same_why word (Error OutOfBounds) why e (told_word word (codes "2") ec)
    by false false false true f g ea eb ec ed ef eg e = same_why word (Error UnknownCommand) why e (told_word word (codes "3") ed)
    by false false false false true g ea eb ec ed ef eg e = same_why word (Error InvalidArguments) why e (told_word word (codes "4") ef)
    by false false false false false true ea eb ec ed ef eg e = same_why word (Error Quota) why e (told_word word (codes "6") eg)
    by false false false false false false ea eb ec ed ef eg e = absurd (cc)

lost_with_told : (s w : List ℕ) (pieces : List (List ℕ)) (a : ℕ) (why : Why) (words : List (ℕ × ℕ)) (event : Event) → s ≡ numeral a → a < 2 ^ 32 → w ≡ why_piece why → pieces ≡ map word_piece words → All IsWord words
    → lost_with a why words ≡ Some event → Told (codes "lost" ∷ s ∷ w ∷ pieces) event
lost_with_told s w pieces a (Error error) words event es small ew ep are e = same_event (codes "lost" ∷ s ∷ w ∷ pieces) (Lost a (Error error) words) event e ((λ i. codes "lost" ∷ es i ∷ ew i ∷ ep i), (small, are))
lost_with_told s w pieces a Memory [] event es small ew ep are e = same_event (codes "lost" ∷ s ∷ w ∷ pieces) (Lost a Memory []) event e ((λ i. codes "lost" ∷ es i ∷ ew i ∷ ep i), (small, refl))
lost_with_told s w pieces a Memory (word ∷ words) event es small ew ep are e = absurd (cc)

lost_told : (pieces : List (List ℕ)) (event : Event) → lost_said pieces ≡ Some event → Told (codes "lost" ∷ pieces) event
unfolding lost_said
lost_told (s ∷ w ∷ pieces) event e = by (own_number s) (why_said w) (words_said pieces) refl refl refl e
  where
    by : (stream : Option ℕ) (why : Option Why) (words : Option (List (ℕ × ℕ))) → own_number s ≡ stream → why_said w ≡ why → words_said pieces ≡ words
        → (stream >>= (λ s. why >>= (λ why. words >>= (λ ws. lost_with s why ws)))) ≡ Some event → Told (codes "lost" ∷ s ∷ w ∷ pieces) event
    by (Some a) (Some why) (Some ws) es ey ew e =
        let first = number_told_own s a es in
        let more = words_told pieces ws ew in
        lost_with_told s w pieces a why ws event first.0 first.1 (why_told w why ey) more.0 more.1 e
    by None why words es ey ew e = absurd (cc)
    by (Some a) None words es ey ew e = absurd (cc)
    by (Some a) (Some why) None es ey ew e = absurd (cc)
lost_told _ event e = absurd (cc)

-- the event that pieces say is the one whose pieces they are
pub pieces_told : (pieces : List (List ℕ)) (event : Event) → pieces_said pieces ≡ Some event → (pieces ≡ event_pieces event) × HasNumbersOfWords event
unfolding said_by
pieces_told [] event e = absurd (cc)
pieces_told (keyword ∷ pieces) event e = by (bytes_eq keyword (codes "step")) (bytes_eq keyword (codes "order")) (bytes_eq keyword (codes "finish")) (bytes_eq keyword (codes "lost")) (bytes_eq keyword (codes "close")) refl refl refl refl refl e
  where
    renamed : (text : List ℕ) → bytes_eq keyword text ≡ true → Told (text ∷ pieces) event → Told (keyword ∷ pieces) event
    renamed text e told = subst (λ (word : List ℕ). Told (word ∷ pieces) event) (sym (told_word keyword text e)) told

    by : (a b c d f : Bool) → bytes_eq keyword (codes "step") ≡ a → bytes_eq keyword (codes "order") ≡ b → bytes_eq keyword (codes "finish") ≡ c → bytes_eq keyword (codes "lost") ≡ d → bytes_eq keyword (codes "close") ≡ f
        → cond a (step_said pieces) (cond b (order_said pieces) (cond c (finish_said pieces) (cond d (lost_said pieces) (cond f (close_said pieces) None)))) ≡ Some event → Told (keyword ∷ pieces) event
    by true b c d f ea eb ec ed ef e = renamed (codes "step") ea (step_told pieces event e)
    by false true c d f ea eb ec ed ef e = renamed (codes "order") eb (order_told pieces event e)
    by false false true d f ea eb ec ed ef e = renamed (codes "finish") ec (finish_told pieces event e)
    by false false false true f ea eb ec ed ef e = renamed (codes "lost") ed (lost_told pieces event e)
    by false false false false true ea eb ec ed ef e = renamed (codes "close") ef (close_told pieces event e)
    by false false false false false ea eb ec ed ef e = absurd (cc)

-- ---- and the pieces of an event say it

why_there : (why : Why) → why_said (why_piece why) ≡ Some why
unfolding numeral
why_there Memory = refl
why_there (Error InvalidSize) = refl
why_there (Error OutOfBounds) = refl
why_there (Error UnknownCommand) = refl
why_there (Error InvalidArguments) = refl
why_there (Error Quota) = refl

pub pieces_there : (event : Event) → HasNumbersOfWords event → pieces_said (event_pieces event) ≡ Some event
unfolding said_by order_said step_said finish_said lost_said close_said words_said
pieces_there (Order stream order place) is = rw (own_number_there stream is.0, own_number_there order is.1, own_number_there place is.2) refl
pieces_there (Step stream words) is = rw (own_number_there stream is.0, words_there words is.1) refl
pieces_there (Finish stream order) is = rw (own_number_there stream is.0, own_number_there order is.1) refl
pieces_there (Lost stream (Error error) words) is = rw (own_number_there stream is.0, why_there (Error error), words_there words is.1) refl
pieces_there (Lost stream Memory words) is = rw (is.1, own_number_there stream is.0) refl
pieces_there (Close stream) is = rw (own_number_there stream is) refl
