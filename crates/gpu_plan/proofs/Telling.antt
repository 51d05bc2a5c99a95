-- The names that the stream lines of a lawful script say are the names of its streams.
use Rattle.std.proofs.Common.{◌≡◌, ℕ, ◌+◌, Bool, true, false, not, cond, List, [], ◌∷◌, Option, Some, None, Result, Ok, Err, refl, sym, ap, ◌∙◌, arith}
use Rattle.std.specs.Prelude.{codes, bytes_eq}
use Rattle.std.specs.List.{position_or_len}
use Rattle.std.proofs.lemmas.List.{length-map}
use Rattle.std.proofs.lemmas.Bool.Decides.{nat_tests}
use Rattle.gpu_cmd.specs.declared.name.Name.{Name}
use Rattle.script_lines.specs.Names.{is_name, number_in}
use Rattle.script_lines.specs.declared.fault.Kind.{Kind}
use Rattle.script_lines.specs.declared.fault.Kind.TheVariants.{Word}
use Rattle.script_lines.specs.declared.keyword.Keyword.{Keyword}
use Rattle.script_lines.specs.declared.keyword.Keyword.TheVariants.{StreamLine, MemoryLine, ResultsLine, PutLine, FillLine, FlushLine, FinishLine, TokenLine, CloseLine, DumpLine}
use Rattle.script_lines.specs.Outcome.{◌>>=◌, or_error, at_line}
use Rattle.script_lines.specs.Said.{keyword_of, named_said}
use Rattle.script_lines.specs.Naming.{names_with, named_on, named_in}
use Rattle.gpu_plan.specs.Plans.{PlanData, PlansData, is_of, number_of}
use Rattle.gpu_plan.specs.Named.{names_in}
use Rattle.gpu_plan.specs.Adding.{Draft, streams, with_stream, with_line}
use Rattle.gpu_plan.specs.Script.{is_remark, numbered, plans_of, from_body}
use Rattle.gpu_plan.proofs.Named.{bound, found, plain, stream_begins, begins_stream, keyword_told}

-- ---- the number of a stream's name

places_same : (name : Name) (plans : List PlanData) → position_or_len (is_of name) plans ≡ position_or_len (is_name name) (names_in plans)
places_same name [] = refl
places_same name (plan ∷ plans) = ap (λ at. cond (not (is_name name plan.name)) (1 + at) 0) (places_same name plans)

pub number_same : (plans : List PlanData) (name : Name) → number_of plans name ≡ number_in (names_in plans) name
number_same plans name = rw (places_same name plans, length-map plans (λ (plan : PlanData). plan.name)) refl

-- ---- which keyword a stream line has

abbrev IsNoStream : Option Keyword → Type 0
IsNoStream None = Unit {0}
IsNoStream (Some keyword) = begins_stream keyword ≡ false

others : (b c d e f g h i j : Bool) → IsNoStream (cond b (Some MemoryLine) (cond c (Some ResultsLine) (cond d (Some PutLine) (cond e (Some FillLine) (cond f (Some FlushLine) (cond g (Some FinishLine) (cond h (Some TokenLine) (cond i (Some CloseLine) (cond j (Some DumpLine) None)))))))))
others true c d e f g h i j = refl
others false true d e f g h i j = refl
others false false true e f g h i j = refl
others false false false true f g h i j = refl
others false false false false true g h i j = refl
others false false false false false true h i j = refl
others false false false false false false true i j = refl
others false false false false false false false true j = refl
others false false false false false false false false true = refl
others false false false false false false false false false = tt

by_keyword : (test : Bool) (rest : Option Keyword) (keyword : Keyword) → IsNoStream rest → cond test (Some StreamLine) rest ≡ Some keyword → test ≡ begins_stream keyword
by_keyword true rest keyword h e = let s : StreamLine ≡ keyword = cc in ap begins_stream s
by_keyword false None keyword h e = absurd cc
by_keyword false (Some other) keyword h e = let s : other ≡ keyword = cc in sym h ∙ ap begins_stream s

stream_test : (name : List ℕ) (keyword : Keyword) → keyword_of name ≡ Some keyword → bytes_eq name (codes "stream") ≡ begins_stream keyword
stream_test name keyword e = by_keyword (bytes_eq name (codes "stream")) _ keyword (others _ _ _ _ _ _ _ _ _) e

remark_is_none : (name : List ℕ) → is_remark name ≡ true → bytes_eq name (codes "stream") ≡ false
remark_is_none [] e = refl
remark_is_none (c ∷ cs) e = let here : c ≡ 35 = grind (arith, nat_tests) in rw here refl

-- ---- lines

begun_told : (words : List (List ℕ)) (d e : Draft) → with_stream 2 words d ≡ Ok e → names_in (streams e) ≡ names_with (names_in (streams d)) (named_said words)
begun_told words d e h =
    let begins = stream_begins 2 words d e h in
    begins.names ∙ rw (begins.is, begins.new) refl

line_told : (names : List Name) (name : List ℕ) (words : List (List ℕ)) (d e : Draft) → with_line 2 names name words d ≡ Ok e → names_in (streams e) ≡ named_on (names_in (streams d)) (name ∷ words)
unfolding with_line named_on
line_told names name words d e h =
    let keyword = bound (or_error Word (keyword_of name)) _ e h in
    let test = stream_test name keyword.0 (found Word (keyword_of name) keyword.0 keyword.1) in
    keyword_told 2 names keyword.0 words d e (names_in (streams e) ≡ named_on (names_in (streams d)) (name ∷ words)) keyword.2
    (λ begins begun. rw (test, begins) (begun_told words d e begun))
    (λ begins stays. rw (test, begins) stays)

numbered_told : (names : List Name) (n : ℕ) (line : List (List ℕ)) (d e : Draft) → numbered 2 names n line d ≡ Ok e → names_in (streams e) ≡ named_on (names_in (streams d)) line
unfolding numbered named_on
numbered_told names n [] d e h = let s : d ≡ e = cc in ap (λ (x : Draft). names_in (streams x)) (sym s)
numbered_told names n (name ∷ words) d e h = by_remark (is_remark name) refl h
  where
    by_remark : (remark : Bool) → is_remark name ≡ remark → cond remark (Ok d) (at_line n (with_line 2 names name words d)) ≡ Ok e → names_in (streams e) ≡ named_on (names_in (streams d)) (name ∷ words)
    by_remark true is h = let s : d ≡ e = cc in rw (remark_is_none name is) (ap (λ (x : Draft). names_in (streams x)) (sym s))
    by_remark false is h = line_told names name words d e (plain n (with_line 2 names name words d) e h)

steps : (r : Result Draft (ℕ × Kind)) (f : Draft → Result PlansData (ℕ × Kind)) (y : PlansData) → (r >>= f) ≡ Ok y → (d : Draft) × (r ≡ Ok d) × (f d ≡ Ok y)
steps (Ok d) f y e = (d, refl, e)
steps (Err k) f y e = absurd cc

pub body_told : (names : List Name) (n : ℕ) (d : Draft) (lines : List (List (List ℕ))) (script : PlansData) → from_body 2 names n d lines ≡ Ok script → named_in (names_in (streams d)) lines ≡ names_in script.plans
unfolding from_body named_in
body_told names n d [] script e = let s : plans_of 2 d ≡ script = cc in ap (λ (x : PlansData). names_in x.plans) s
body_told names n d (line ∷ lines) script e =
    let next = steps (numbered 2 names n line d) _ script e in
    ap (λ ns. named_in ns lines) (sym (numbered_told names n line d next.0 next.1)) ∙ body_told names (n + 1) next.0 lines script next.2
