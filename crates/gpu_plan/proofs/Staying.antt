-- A line says the same where more names are mentioned after it.
use Rattle.std.proofs.Common.{◌≡◌, ℕ, Bool, true, false, cond, List, [], ◌∷◌, map, Option, Some, None, Ok, refl, sym, ap, subst, ◌∙◌}
use Rattle.gpu_cmd.specs.declared.name.Name.{Name}
use Rattle.script_lines.proofs.Numbers.{Keeps, keeps_all, keeps_both}
use Rattle.script_lines.specs.Text.{words_of}
use Rattle.script_lines.specs.declared.fault.Kind.TheVariants.{Word}
use Rattle.script_lines.specs.declared.keyword.Keyword.{Keyword}
use Rattle.script_lines.specs.declared.keyword.Keyword.TheVariants.{StreamLine, MemoryLine, ResultsLine, PutLine, FillLine, FlushLine, FinishLine, TokenLine, CloseLine, DumpLine}
use Rattle.script_lines.specs.Outcome.{◌>>=◌, or_error, at_line}
use Rattle.script_lines.specs.Said.{keyword_of}
use Rattle.script_lines.specs.Mentioned.{mentioned_behind}
use Rattle.script_lines.proofs.Mentions.{keeps_behind}
use Rattle.script_lines.proofs.Moved.{flush_stays}
use Rattle.gpu_plan.specs.Adding.{Draft, with_flush, with_keyword, with_line}
use Rattle.gpu_plan.specs.Script.{is_remark, numbered}
use Rattle.gpu_plan.specs.Mentioning.{mentioned_as, mentioned_on, mentioned_in}

-- ---- names keep their numbers

pub keeps_as : (version : ℕ) (names : List Name) (keyword : Option Keyword) (words : List (List ℕ)) → Keeps names (mentioned_as version names keyword words)
keeps_as version names None words = keeps_all names
keeps_as version names (Some StreamLine) words = keeps_all names
keeps_as version names (Some MemoryLine) words = keeps_all names
keeps_as version names (Some ResultsLine) words = keeps_all names
keeps_as version names (Some PutLine) words = keeps_all names
keeps_as version names (Some FillLine) words = keeps_all names
keeps_as version names (Some FlushLine) words = keeps_behind version names words
keeps_as version names (Some FinishLine) words = keeps_all names
keeps_as version names (Some TokenLine) words = keeps_all names
keeps_as version names (Some CloseLine) words = keeps_all names
keeps_as version names (Some DumpLine) words = keeps_all names

keeps_on : (version : ℕ) (names : List Name) (line : List (List ℕ)) → Keeps names (mentioned_on version names line)
unfolding mentioned_on
keeps_on version names [] = keeps_all names
keeps_on version names (name ∷ words) = by_remark (is_remark name)
  where
    by_remark : (remark : Bool) → Keeps names (cond remark names (mentioned_as version names (keyword_of name) words))
    by_remark true = keeps_all names
    by_remark false = keeps_as version names (keyword_of name) words

pub keeps_in : (version : ℕ) (names : List Name) (lines : List (List (List ℕ))) → Keeps names (mentioned_in version names lines)
unfolding mentioned_in
keeps_in version names [] = keeps_all names
keeps_in version names (line ∷ lines) =
    let next = mentioned_on version names line in
    keeps_both names next (mentioned_in version next lines) (keeps_on version names line) (keeps_in version next lines)

-- ---- lines stay

module _ (version : ℕ) (names total : List Name) where
  flush_line_stays : (words : List (List ℕ)) (d : Draft) → Keeps (mentioned_behind version names words) total → with_flush version (mentioned_behind version names words) words d ≡ with_flush version total words d
  unfolding with_flush
  flush_line_stays words d keeps = rw (flush_stays version names total words keeps) refl

  keyword_stays : (keyword : Option Keyword) (words : List (List ℕ)) (d : Draft) → Keeps (mentioned_as version names keyword words) total
      → (or_error Word keyword >>= λ k. with_keyword version (mentioned_as version names keyword words) k words d) ≡ (or_error Word keyword >>= λ k. with_keyword version total k words d)
  keyword_stays None words d keeps = refl
  keyword_stays (Some StreamLine) words d keeps = refl
  keyword_stays (Some MemoryLine) words d keeps = refl
  keyword_stays (Some ResultsLine) words d keeps = refl
  keyword_stays (Some PutLine) words d keeps = refl
  keyword_stays (Some FillLine) words d keeps = refl
  keyword_stays (Some FlushLine) words d keeps = flush_line_stays words d keeps
  keyword_stays (Some FinishLine) words d keeps = refl
  keyword_stays (Some TokenLine) words d keeps = refl
  keyword_stays (Some CloseLine) words d keeps = refl
  keyword_stays (Some DumpLine) words d keeps = refl

  numbered_stays : (n : ℕ) (line : List (List ℕ)) (d : Draft) → Keeps (mentioned_on version names line) total → numbered version (mentioned_on version names line) n line d ≡ numbered version total n line d
  unfolding numbered mentioned_on with_line
  numbered_stays n [] d keeps = refl
  numbered_stays n (name ∷ words) d keeps = by_remark (is_remark name) keeps
    where
      by_remark : (remark : Bool) → Keeps (cond remark names (mentioned_as version names (keyword_of name) words)) total
          → cond remark (Ok d) (at_line n (with_line version (cond remark names (mentioned_as version names (keyword_of name) words)) name words d)) ≡ cond remark (Ok d) (at_line n (with_line version total name words d))
      by_remark true keeps = refl
      by_remark false keeps = ap (at_line n) (keyword_stays (keyword_of name) words d keeps)

  -- what a line says before the lines after it are known is what it says of the whole script
  pub line_stays : (n : ℕ) (line : List (List ℕ)) (rest : List (List (List ℕ))) (d : Draft) → mentioned_in version (mentioned_on version names line) rest ≡ total → numbered version (mentioned_on version names line) n line d ≡ numbered version total n line d
  line_stays n line rest d so_far = numbered_stays n line d (subst (Keeps (mentioned_on version names line)) so_far (keeps_in version (mentioned_on version names line) rest))

-- ---- lines one after the other

pub mention_goes : (version : ℕ) (names next : List Name) (all rest : List (List ℕ)) (line : List ℕ) (total : List Name) → all ≡ line ∷ rest → next ≡ mentioned_on version names (words_of line)
    → mentioned_in version names (map words_of all) ≡ total → mentioned_in version next (map words_of rest) ≡ total
unfolding mentioned_in
mention_goes version names next all rest line total e h so_far =
    let one : mentioned_in version names (map words_of all) ≡ mentioned_in version next (map words_of rest) = rw (e, h) refl in
    sym one ∙ so_far

pub mention_done : (version : ℕ) (names : List Name) (all : List (List ℕ)) (total : List Name) → all ≡ [] → mentioned_in version names (map words_of all) ≡ total → names ≡ total
unfolding mentioned_in
mention_done version names all total e so_far =
    let one : mentioned_in version names (map words_of all) ≡ names = rw e refl in
    sym one ∙ so_far
