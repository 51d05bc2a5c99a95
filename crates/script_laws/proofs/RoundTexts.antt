-- The text of a round, and of a stream before its rounds, as lines of words.
use Rattle.std.proofs.Common.{◌≡◌, ℕ, ◌-◌, List, [], ◌∷◌, ◌++◌, map, refl, ap, append_assoc, append-nil}
use Rattle.std.specs.Prelude.{codes, decimal}
use Rattle.std.specs.Fmt.{digits}
use Rattle.std.specs.List.{flat_map}
use Rattle.script_generator.specs.Generator.{spaced_number, value_text, base_of, round_lines, start_text}
use Rattle.script_laws.proofs.Words.{spaced, line_text}
use Rattle.script_laws.proofs.Values.{hex}

-- a line of words with its line feed
abbrev pub line : List ℕ → List (List ℕ) → List ℕ
line word words = line_text word words ++ codes "\n"

-- the lines of a put and a flush of values, and of a fill between them
abbrev pub round_of : ℕ → List ℕ → ℕ → List ℕ
round_of base words uploaded = line (codes "put") (decimal base ∷ map hex words) ++ (line (codes "fill") (codes "0" ∷ codes "0" ∷ hex uploaded ∷ []) ++ (line (codes "flush") (decimal (32 - base) ∷ []) ++ line (codes "finish") []))

same_values : (values : List ℕ) → flat_map value_text values ≡ flat_map spaced (map hex values)
same_values [] = refl
same_values (value ∷ values) = ap (λ more. value_text value ++ more) (same_values values)

join : (put base values nl fill zero uploaded flush left finish : List ℕ) → put ++ base ++ values ++ (nl ++ (fill ++ (zero ++ zero))) ++ uploaded ++ (nl ++ flush) ++ left ++ (nl ++ (finish ++ nl))
    ≡ ((put ++ (base ++ values)) ++ nl) ++ (((fill ++ (zero ++ (zero ++ (uploaded ++ [])))) ++ nl) ++ (((flush ++ (left ++ [])) ++ nl) ++ ((finish ++ []) ++ nl)))
join put base values nl fill zero uploaded flush left finish = simp (append_assoc, append-nil)

pub round_is : (round : ℕ) (words : List ℕ) (uploaded : ℕ) → round_lines round words uploaded ≡ round_of (base_of round) words uploaded
round_is round words uploaded = rw (same_values words) (join (codes "put") (spaced_number (base_of round)) (flat_map spaced (map hex words)) (codes "\n") (codes "fill") (codes " 0") (value_text uploaded) (codes "flush") (spaced_number (32 - base_of round)) (codes "finish"))

-- the lines of a stream before its rounds, after the stream line
abbrev pub start_of : ℕ → List ℕ
start_of stream = line (codes "memory") (codes "0" ∷ codes "16" ∷ []) ++ (line (codes "put") (decimal 0 ∷ map hex (0x20400004 ∷ stream ∷ 16 ∷ 16 ∷ 28 ∷ [])) ++ (line (codes "flush") (decimal 32 ∷ []) ++ line (codes "finish") []))

join_start : (head stream space priority ring nl memory put values flush finish : List ℕ) → head ++ stream ++ space ++ priority ++ (ring ++ (nl ++ (memory ++ (nl ++ put)))) ++ values ++ (nl ++ (flush ++ (nl ++ (finish ++ nl))))
    ≡ ((head ++ (stream ++ ((space ++ priority) ++ (ring ++ [])))) ++ nl) ++ ((memory ++ nl) ++ (((put ++ values) ++ nl) ++ ((flush ++ nl) ++ (finish ++ nl))))
join_start head stream space priority ring nl memory put values flush finish = simp (append_assoc, append-nil)

pub start_is : (priority : List ℕ) (stream : ℕ) → start_text priority stream ≡ line (codes "stream") (decimal stream ∷ priority ∷ codes "64" ∷ []) ++ start_of stream
unfolding start_text digits
start_is priority stream =
    let values = 0x20400004 ∷ stream ∷ 16 ∷ 16 ∷ 28 ∷ [] in
    rw (same_values values) (join_start (codes "stream") (spaced_number stream) (codes " ") priority (codes " 64") (codes "\n") (codes "memory 0 16") (codes "put 0") (flat_map spaced (map hex values)) (codes "flush 32") (codes "finish"))
