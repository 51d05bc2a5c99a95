-- The lines of a text, each with its line feed.
use Rattle.verify_input.proofs.Names.{◌≡◌, ℕ, suc, ◌<◌, ◌≤◌, true, false, cond, not, inl, inr, List, [], ◌∷◌, ◌++◌, length, length-append, refl, sym, ap, ◌∙◌, append_assoc, arith, filter, concat, append-nil, All-head, All-tail, ends_line, words_of, HasNoFeed, byte_before, whole_lines, words_on, IsFirstLine, IsLine}
use Rattle.verify_input.proofs.Lines.{lines_first}

-- ---- lines and their text

concat_joined : (byte : ℕ) (lines : List (List ℕ)) → concat (byte_before byte lines) ≡ byte ∷ concat lines
concat_joined byte [] = refl
concat_joined byte (line ∷ lines) = refl

pub concat_whole : (text : List ℕ) → concat (whole_lines text) ≡ text
concat_whole [] = refl
concat_whole (byte ∷ text) =
    elim (ends_line byte) as (λ b. concat (cond b ((byte ∷ []) ∷ whole_lines text) (byte_before byte (whole_lines text))) ≡ byte ∷ text) [
      | true ↦ ap (λ (rest : List ℕ). byte ∷ rest) (concat_whole text)
      | false ↦ concat_joined byte (whole_lines text) ∙ ap (λ (rest : List ℕ). byte ∷ rest) (concat_whole text)
    ]

length_joined : (byte : ℕ) (lines : List (List ℕ)) → length (byte_before byte lines) ≤ suc (length lines)
length_joined byte [] = omega arith
length_joined byte (line ∷ lines) = omega arith

pub few_whole : (text : List ℕ) → length (whole_lines text) ≤ length text
few_whole [] = omega arith
few_whole (byte ∷ text) =
    let rest = few_whole text in
    elim (ends_line byte) as (λ b. length (cond b ((byte ∷ []) ∷ whole_lines text) (byte_before byte (whole_lines text))) ≤ suc (length text)) [
      | true ↦ omega arith
      | false ↦ omega (arith, length_joined byte (whole_lines text))
    ]

-- ---- the first line of a text

pub last_whole : (text : List ℕ) → 0 < length text → HasNoFeed text → whole_lines text ≡ text ∷ []
last_whole [] some none = absurd (omega arith)
last_whole (b ∷ []) some none = rw (All-head (λ byte. ends_line byte ≡ false) b [] none) refl
last_whole (b ∷ c ∷ text) some none = rw (All-head (λ byte. ends_line byte ≡ false) b (c ∷ text) none, last_whole (c ∷ text) (omega arith) (All-tail (λ byte. ends_line byte ≡ false) b (c ∷ text) none)) refl

-- the rest of a line without its line feed
kept_all : (line : List ℕ) → HasNoFeed line → filter (λ byte. not (ends_line byte)) line ≡ line
kept_all [] none = refl
kept_all (b ∷ line) none = rw (All-head (λ byte. ends_line byte ≡ false) b line none, kept_all line (All-tail (λ byte. ends_line byte ≡ false) b line none)) refl

pub kept_front : (line : List ℕ) → HasNoFeed line → filter (λ byte. not (ends_line byte)) (line ++ 10 ∷ []) ≡ line
kept_front [] none = refl
kept_front (b ∷ line) none = rw (All-head (λ byte. ends_line byte ≡ false) b line none, kept_front line (All-tail (λ byte. ends_line byte ≡ false) b line none)) refl

-- the first line with its line feed, where it has one
pub record Starts (text line rest : List ℕ) : Type 0 where
  pub whole : List ℕ
  pub is : text ≡ whole ++ rest
  pub lines : whole_lines text ≡ whole ∷ whole_lines rest
  pub alone : whole_lines whole ≡ whole ∷ []
  pub closed : 0 < length rest → (x : List ℕ) → whole_lines (whole ++ x) ≡ whole ∷ whole_lines x
  pub words : words_on whole ≡ words_of line
  pub some : 0 < length whole

pub starts : (text line rest : List ℕ) → IsFirstLine text line rest → Starts text line rest
starts text line rest (none, inl e) = record {
  whole = line ++ 10 ∷ [];
  is = e ∙ sym (append_assoc line (10 ∷ []) rest);
  lines = ap whole_lines e ∙ lines_first line rest none;
  alone = lines_first line [] none;
  closed = λ some x. ap whole_lines (append_assoc line (10 ∷ []) x) ∙ lines_first line x none;
  words = ap words_of (kept_front line none);
  some = omega (arith, length-append line (10 ∷ []));
}
starts text line rest (none, inr last) =
    let one = last_whole line last.2 none in
    let nil : rest ≡ [] = last.1 in
    record {
      whole = line;
      is = last.0 ∙ sym (append-nil line) ∙ ap (λ (rest : List ℕ). line ++ rest) (sym nil);
      lines = ap whole_lines last.0 ∙ one ∙ ap (λ (rest : List ℕ). line ∷ whole_lines rest) (sym nil);
      alone = one;
      closed = λ some x. let none : length rest ≡ 0 = ap length nil in absurd (omega arith);
      words = ap words_of (kept_all line none);
      some = last.2;
    }

-- ---- a text that is one line

pub line_first : (line rest : List ℕ) → IsLine line → whole_lines (line ++ rest) ≡ line ∷ whole_lines rest
line_first line rest one =
    ap (λ (line : List ℕ). whole_lines (line ++ rest)) one.is
    ∙ ap whole_lines (append_assoc one.line (10 ∷ []) rest)
    ∙ lines_first one.line rest one.none
    ∙ ap (λ (line : List ℕ). line ∷ whole_lines rest) (sym one.is)
