-- What a line says, cut at its spaces: the event whose text it is, if it is one.
use Rattle.std.specs.Prelude.{ℕ, ◌-◌, ◌==◌, ◌&&◌, ◌||◌, Bool, nat_lt, List, [], ◌∷◌, length, take, drop, slice_index, Option, Some, None, codes, bytes_eq, if◌then◌else◌}
use Rattle.std.specs.Char.{is_digit, digit_value}
use Rattle.std.specs.List.{list_all, slice_split}
use Rattle.script_lines.specs.Numbers.{decimal_of, hex_of}
use Rattle.gpu_cmd.specs.declared.error.CmdError.TheVariants.{InvalidSize, OutOfBounds, UnknownCommand, InvalidArguments, Quota}
use Rattle.gpu_journal.specs.declared.event.Event.{Event}
use Rattle.gpu_journal.specs.declared.event.Event.TheVariants.{Order, Step, Finish, Lost, Close}
use Rattle.gpu_journal.specs.declared.event.Why.{Why}
use Rattle.gpu_journal.specs.declared.event.Why.TheVariants.{Error, Memory}

-- the second is asked where there is a first
infixl 10 ◌>>=◌
abbrev pub ◌>>=◌ : {A B : Type 0} → Option A → (A → Option B) → Option B
None >>= f = None
(Some x) >>= f = f x

-- a space
abbrev pub is_space : ℕ → Bool
is_space byte = byte == 32

-- what stands after the first space, cut at each further one
abbrev pub pieces_of : List ℕ → List (List ℕ)
pieces_of text = drop 1 (slice_split is_space text)

-- no letter of the hexadecimal digits is a capital; the codes of `A` to `F` are 65 to 70
abbrev pub is_small : ℕ → Bool
is_small byte = nat_lt byte 65 || nat_lt 70 byte

-- the value of a hexadecimal digit with small letters, or 16 of what is none
abbrev pub small_digit : ℕ → ℕ
small_digit byte = if is_small byte && is_digit byte 16 then digit_value byte else 16

-- a decimal number of 32 bits without a zero before other digits; the code of `0` is 48
unfoldable pub own_number : List ℕ → Option ℕ
own_number word = if nat_lt 1 (length word) && slice_index word 0 == 48 then None else decimal_of word

-- a value in lower-case hexadecimal digits
unfoldable pub own_value : List ℕ → Option ℕ
own_value word = if list_all is_small word then hex_of word else None

-- a place, a colon, and a value as eight digits; the code of the colon is 58
unfoldable pub word_said : List ℕ → Option (ℕ × ℕ)
word_said word = if nat_lt 9 (length word) && slice_index word (length word - 9) == 58 then (do
  place ← own_number (take (length word - 9) word)
  value ← own_value (drop (length word - 8) word)
  Some (place, value)) else None

-- a list of such words
unfoldable pub words_said : List (List ℕ) → Option (List (ℕ × ℕ))
words_said [] = Some []
words_said (piece ∷ pieces) = do
  word ← word_said piece
  words ← words_said pieces
  Some (word ∷ words)

-- the number of an error, or `memory`
abbrev pub why_said : List ℕ → Option Why
why_said word =
    if bytes_eq word (codes "memory") then Some Memory else (if bytes_eq word (codes "1") then Some (Error InvalidSize) else (if bytes_eq word (codes "2") then Some (Error OutOfBounds) else (if bytes_eq word (codes "3") then Some (Error UnknownCommand) else (if bytes_eq word (codes "4") then Some (Error InvalidArguments) else (if bytes_eq word (codes "6") then Some (Error Quota) else None)))))

-- after `order`: a stream, an order number and an action place
unfoldable pub order_said : List (List ℕ) → Option Event
order_said (s ∷ n ∷ c ∷ []) = do
  stream ← own_number s
  order ← own_number n
  place ← own_number c
  Some (Order stream order place)
order_said _ = None

-- after `step`: a stream and words
unfoldable pub step_said : List (List ℕ) → Option Event
step_said [] = None
step_said (s ∷ pieces) = do
  stream ← own_number s
  words ← words_said pieces
  Some (Step stream words)

-- after `finish`: a stream and an order number
unfoldable pub finish_said : List (List ℕ) → Option Event
finish_said (s ∷ n ∷ []) = do
  stream ← own_number s
  order ← own_number n
  Some (Finish stream order)
finish_said _ = None

-- a loss with these words; one as out of memory has none
abbrev pub lost_with : ℕ → Why → List (ℕ × ℕ) → Option Event
lost_with stream (Error error) words = Some (Lost stream (Error error) words)
lost_with stream Memory [] = Some (Lost stream Memory [])
lost_with stream Memory (word ∷ words) = None

-- after `lost`: a stream, why it was lost, and words
unfoldable pub lost_said : List (List ℕ) → Option Event
lost_said (s ∷ w ∷ pieces) = do
  stream ← own_number s
  why ← why_said w
  words ← words_said pieces
  lost_with stream why words
lost_said _ = None

-- after `close`: a stream
unfoldable pub close_said : List (List ℕ) → Option Event
close_said (s ∷ []) = do
  stream ← own_number s
  Some (Close stream)
close_said _ = None

-- a first word, and what it says with the pieces after it
unfoldable pub said_by : List ℕ → List (List ℕ) → Option Event
said_by keyword pieces =
    if bytes_eq keyword (codes "step") then step_said pieces else (if bytes_eq keyword (codes "order") then order_said pieces else (if bytes_eq keyword (codes "finish") then finish_said pieces else (if bytes_eq keyword (codes "lost") then lost_said pieces else (if bytes_eq keyword (codes "close") then close_said pieces else None))))

-- the pieces of a line, the first of which is its first word
abbrev pub pieces_said : List (List ℕ) → Option Event
pieces_said [] = None
pieces_said (keyword ∷ pieces) = said_by keyword pieces

-- a line without its line feed
unfoldable pub line_said : List ℕ → Option Event
line_said line = pieces_said (slice_split is_space line)
