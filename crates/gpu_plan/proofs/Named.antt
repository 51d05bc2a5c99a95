-- Each line leaves the names of the streams lawful.
use Rattle.std.proofs.Common.{◌≡◌, ℕ, ◌+◌, Bool, true, false, cond, not, nat_le, nat_lt, ◌&&◌, ◌||◌, ◌==◌, List, [], ◌∷◌, ◌++◌, length, option_to_list, Option, Some, None, Result, Ok, Err, refl, sym, ap, subst, ◌∙◌, arith}
use Rattle.std.specs.List.{list_any}
use Rattle.std.proofs.lemmas.List.{length-map}
use Rattle.std.proofs.lemmas.Bool.{not-true}
use Rattle.std.proofs.lemmas.Bool.Decides.{nat_tests}
use Rattle.gpu_cmd.specs.declared.name.Name.{Name}
use Rattle.script_lines.specs.Names.{is_name}
use Rattle.script_lines.specs.declared.fault.Kind.{Kind}
use Rattle.script_lines.specs.declared.fault.Kind.TheVariants.{Word, Number, Order, Double, Place, Limit}
use Rattle.gpu_cmd.specs.declared.priority.Priority.{Priority}
use Rattle.script_lines.specs.declared.keyword.Keyword.{Keyword}
use Rattle.script_lines.specs.declared.keyword.Keyword.TheVariants.{StreamLine, MemoryLine, ResultsLine, PutLine, FillLine, FlushLine, FinishLine, TokenLine, CloseLine, DumpLine}
use Rattle.script_lines.specs.Outcome.{◌>>=◌, or_error, unless, at_line}
use Rattle.script_lines.specs.Said.{keyword_of, priority_of, none_said, one_said, two_said, stream_said, numbered_said, put_said, fill_said, flush_said}
use Rattle.script_lines.specs.Numbers.{decimal_of}
use Rattle.gpu_cmd.specs.Spans.{span_at}
use Rattle.gpu_cmd.specs.declared.areas.TheConstants.{LEAST_RING, MOST_RING}
use Rattle.gpu_plan.specs.declared.plan.Action.{Action}
use Rattle.gpu_plan.specs.declared.plan.Action.TheVariants.{Flush, Finish, Token, Close}
use Rattle.gpu_plan.specs.Plans.{PlanData, is_of, is_closed}
use Rattle.gpu_plan.specs.Named.{names_in, HasSmallSpace, AreLawfulNames}
use Rattle.gpu_plan.specs.Adding.{Draft, streams, fresh_plan, acting, fresh, added, puts, spans_with, may_follow, with_stream, with_memory, with_results, with_puts, with_fill, with_flush, with_finish, with_token, with_close, with_dump, with_keyword, with_line}
use Rattle.gpu_plan.specs.Script.{is_remark, numbered}
use Rattle.gpu_plan.specs.declared.acting.TheConstants.{MOST_ACTIONS, MOST_FLUSHES, MOST_FENCES}
use Rattle.gpu_plan.proofs.Apart.{lawful_end, any_is, names_more}
use Rattle.gpu_plan.specs.declared.adding.TheConstants.{MOST_STREAMS, LAST_NAMESPACE}

-- ---- what an answer that is right says of its steps

pub bound : {A B : Type 0} (r : Result A Kind) (f : A → Result B Kind) (y : B) → (r >>= f) ≡ Ok y → (x : A) × (r ≡ Ok x) × (f x ≡ Ok y)
bound (Ok x) f y e = (x, refl, e)
bound (Err kind) f y e = absurd cc

pub passed : {B : Type 0} (b : Bool) (kind : Kind) (f : Unit {0} → Result B Kind) (y : B) → (unless b kind >>= f) ≡ Ok y → (b ≡ true) × (f tt ≡ Ok y)
passed true kind f y e = (refl, e)
passed false kind f y e = absurd cc

allowed : (b : Bool) (kind : Kind) → unless b kind ≡ Ok tt → b ≡ true
allowed true kind e = refl
allowed false kind e = absurd cc

abbrev right : {A : Type 0} → A → Result A Kind
right x = Ok x

pub same : {A : Type 0} (x y : A) → right x ≡ right y → x ≡ y
same x y e = cc

pub found : {A : Type 0} (kind : Kind) (o : Option A) (x : A) → or_error kind o ≡ Ok x → o ≡ Some x
found kind None x e = absurd cc
found kind (Some y) x e = let s : y ≡ x = cc in ap Some s

-- ---- lines that begin no stream

abbrev pub SameNames : Draft → Draft → Type 0
SameNames d e = names_in (streams e) ≡ names_in (streams d)

acting_last : (d : Draft) (p : PlanData) → acting d ≡ Ok p → d.last ≡ Some p
unfolding acting
acting_last d p e =
    let one = bound (or_error Order d.last) (λ last. unless (not (is_closed last.actions)) Order >>= λ _. Ok last) p e in
    let two = passed (not (is_closed one.0.actions)) Order (λ _. Ok one.0) p one.2 in
    found Order d.last one.0 one.1 ∙ ap Some (same one.0 p two.1)

fresh_last : (d : Draft) (p : PlanData) → fresh d ≡ Ok p → d.last ≡ Some p
unfolding fresh
fresh_last d p e =
    let one = bound (or_error Order d.last) (λ last. unless (length last.actions == 0) Order >>= λ _. Ok last) p e in
    let two = passed (length one.0.actions == 0) Order (λ _. Ok one.0) p one.2 in
    found Order d.last one.0 one.1 ∙ ap Some (same one.0 p two.1)

-- the last stream has another plan, of the same name
changed : (d e : Draft) (p q : PlanData) → d.last ≡ Some p → q.name ≡ p.name → e.done ≡ d.done → e.last ≡ Some q → SameNames d e
changed d e p q last name done now =
    ap (λ plans. names_in (plans ++ option_to_list e.last)) done ∙ ap (λ plan. names_in (d.done ++ option_to_list plan)) now
    ∙ names_more d.done q ∙ ap (λ n. names_in d.done ++ n ∷ []) name ∙ sym (names_more d.done p) ∙ sym (ap (λ plan. names_in (d.done ++ option_to_list plan)) last)

added_same : (actions : List Action) (q p : PlanData) (d before e : Draft) → before.done ≡ d.done → d.last ≡ Some p → q.name ≡ p.name → added actions q before ≡ Ok e → SameNames d e
unfolding added
added_same actions q p d before e done last name h =
    let next : Draft = record before { last = Some (record q { actions = q.actions ++ actions }); actions = before.actions + length actions } in
    let is = same next e (passed (nat_le (before.actions + length actions) MOST_ACTIONS) Limit (λ _. Ok next) e h).1 in
    changed d e p (record q { actions = q.actions ++ actions }) last name (ap (λ (x : Draft). x.done) (sym is) ∙ done) (ap (λ (x : Draft). x.last) (sym is))

memory_same : (words : List (List ℕ)) (d e : Draft) → with_memory words d ≡ Ok e → SameNames d e
unfolding with_memory
memory_same words d e h =
    let said = bound (two_said words) _ e h in
    let last = bound (fresh d) _ e said.2 in
    let spans = bound (spans_with last.0.areas.ring last.0.areas.memories said.0.0 said.0.1) _ e last.2 in
    let next : Draft = record d { last = Some (record last.0 { areas = record last.0.areas { memories = spans.0 } }) } in
    let is = same next e spans.2 in
    changed d e last.0 (record last.0 { areas = record last.0.areas { memories = spans.0 } }) (fresh_last d last.0 last.1) refl (ap (λ (x : Draft). x.done) (sym is)) (ap (λ (x : Draft). x.last) (sym is))

results_same : (words : List (List ℕ)) (d e : Draft) → with_results words d ≡ Ok e → SameNames d e
unfolding with_results
results_same words d e h =
    let said = bound (two_said words) _ e h in
    let last = bound (fresh d) _ e said.2 in
    let spans = bound (spans_with 0 last.0.areas.results said.0.0 said.0.1) _ e last.2 in
    let next : Draft = record d { last = Some (record last.0 { areas = record last.0.areas { results = spans.0 } }) } in
    let is = same next e spans.2 in
    changed d e last.0 (record last.0 { areas = record last.0.areas { results = spans.0 } }) (fresh_last d last.0 last.1) refl (ap (λ (x : Draft). x.done) (sym is)) (ap (λ (x : Draft). x.last) (sym is))

puts_same : (words : List (List ℕ)) (d e : Draft) → with_puts words d ≡ Ok e → SameNames d e
unfolding with_puts
puts_same words d e h =
    let said = bound (put_said words) _ e h in
    let last = bound (acting d) _ e said.2 in
    let fits = passed (nat_le (said.0.0 + length said.0.1) last.0.areas.ring) Place _ e last.2 in
    added_same (puts said.0.0 said.0.1) last.0 last.0 d d e refl (acting_last d last.0 last.1) refl fits.1

fill_same : (words : List (List ℕ)) (d e : Draft) → with_fill words d ≡ Ok e → SameNames d e
unfolding with_fill
fill_same words d e h =
    let said = bound (fill_said words) _ e h in
    let last = bound (acting d) _ e said.2 in
    let span = bound (or_error Place (span_at last.0.areas.memories said.0.0)) _ e last.2 in
    let fits = passed (nat_le (said.0.1 + length said.0.2) span.0.words) Place _ e span.2 in
    added_same (puts (span.0.base + said.0.1) said.0.2) last.0 last.0 d d e refl (acting_last d last.0 last.1) refl fits.1

flush_same : (version : ℕ) (names : List Name) (words : List (List ℕ)) (d e : Draft) → with_flush version names words d ≡ Ok e → SameNames d e
unfolding with_flush
flush_same version names words d e h =
    let said = bound (flush_said version names words) _ e h in
    let last = bound (acting d) _ e said.2 in
    let fits = passed (nat_le (d.flushes + 1) MOST_FLUSHES && nat_le (length said.0.1) MOST_FENCES) Limit _ e last.2 in
    added_same (Flush said.0.0 said.0.1 ∷ []) last.0 last.0 d (record d { flushes = d.flushes + 1 }) e refl (acting_last d last.0 last.1) refl fits.1

finish_same : (words : List (List ℕ)) (d e : Draft) → with_finish words d ≡ Ok e → SameNames d e
unfolding with_finish
finish_same words d e h =
    let said = bound (none_said words) _ e h in
    let last = bound (acting d) _ e said.2 in
    added_same (Finish ∷ []) last.0 last.0 d d e refl (acting_last d last.0 last.1) refl last.2

token_same : (words : List (List ℕ)) (d e : Draft) → with_token words d ≡ Ok e → SameNames d e
unfolding with_token
token_same words d e h =
    let said = bound (one_said words) _ e h in
    let last = bound (acting d) _ e said.2 in
    added_same (Token said.0 ∷ []) last.0 last.0 d d e refl (acting_last d last.0 last.1) refl last.2

close_same : (words : List (List ℕ)) (d e : Draft) → with_close words d ≡ Ok e → SameNames d e
unfolding with_close
close_same words d e h =
    let said = bound (none_said words) _ e h in
    let last = bound (acting d) _ e said.2 in
    added_same (Close ∷ []) last.0 last.0 d d e refl (acting_last d last.0 last.1) refl last.2

dump_same : (words : List (List ℕ)) (d e : Draft) → with_dump words d ≡ Ok e → SameNames d e
unfolding with_dump
dump_same words d e h =
    let said = bound (two_said words) _ e h in
    let last = bound (acting d) _ e said.2 in
    let span = bound (or_error Place (span_at last.0.areas.results said.0.0)) _ e last.2 in
    let fits = passed (nat_lt said.0.1 span.0.words) Place _ e span.2 in
    added_same (Finish ∷ []) (record last.0 { dumps = last.0.dumps ++ (length last.0.actions, span.0.base + said.0.1) ∷ [] }) last.0 d d e refl (acting_last d last.0 last.1) refl fits.1

-- ---- a stream line

-- in version 1 a stream line says a name of namespace 0
zero_space : (words : List (List ℕ)) (said : Name × Priority × ℕ) → numbered_said words ≡ Ok said → said.0.namespace ≡ 0
unfolding numbered_said
zero_space [] said e = absurd cc
zero_space (s ∷ []) said e = absurd cc
zero_space (s ∷ p ∷ []) said e = absurd cc
zero_space (s ∷ p ∷ r ∷ []) said e =
    let priority = bound (or_error Word (priority_of p)) _ said e in
    let stream = bound (or_error Number (decimal_of s)) _ said priority.2 in
    let ring = bound (or_error Number (decimal_of r)) _ said stream.2 in
    ap (λ (x : Name × Priority × ℕ). x.0.namespace) (sym (same (record { namespace = 0; id = stream.0 }, priority.0, ring.0) said ring.2))
zero_space (s ∷ p ∷ r ∷ more ∷ words) said e = absurd cc

-- the facts where a stream line is taken up: what it says, that its name and its number are new, and its small namespace
pub record Begins (version : ℕ) (words : List (List ℕ)) (d e : Draft) : Type 0 where
  pub said : Name × Priority × ℕ
  pub is : stream_said version words ≡ Ok said
  pub order : (version == 2 || said.0.id == length (streams d) + 1) ≡ true
  pub new : list_any (is_name said.0) (names_in (streams d)) ≡ false
  pub names : names_in (streams e) ≡ names_in (streams d) ++ said.0 ∷ []
  pub small : HasSmallSpace said.0

pub stream_begins : (version : ℕ) (words : List (List ℕ)) (d e : Draft) → with_stream version words d ≡ Ok e → Begins version words d e
unfolding with_stream may_follow
stream_begins version words d e h =
    let said = bound (stream_said version words) _ e h in
    let name = said.0.0 in
    let follows = bound (may_follow version (streams d) name said.0.2) _ e said.2 in
    let order = passed (version == 2 || name.id == length (streams d) + 1) Order _ tt follows.1 in
    let new = passed (not (list_any (is_of name) (streams d))) Double _ tt order.1 in
    let limits = allowed (nat_le LEAST_RING said.0.2 && nat_le said.0.2 MOST_RING && nat_le name.namespace LAST_NAMESPACE && nat_lt (length (streams d)) MOST_STREAMS) Limit new.1 in
    let plan = fresh_plan name said.0.1 said.0.2 in
    let next : Draft = record d { done = streams d; last = Some plan } in
    let is = same next e follows.2 in
    record {
      said = said.0;
      is = said.1;
      order = order.0;
      new = sym (any_is name (streams d)) ∙ not-true (list_any (is_of name) (streams d)) new.0;
      names = ap (λ (x : Draft). names_in (streams x)) (sym is) ∙ names_more (streams d) plan;
      small = grind (arith, nat_tests);
    }

stream_lawful : (version : ℕ) (words : List (List ℕ)) (d e : Draft) → with_stream version words d ≡ Ok e → AreLawfulNames version (names_in (streams d)) → AreLawfulNames version (names_in (streams e))
stream_lawful version words d e h lawful =
    let begins = stream_begins version words d e h in
    let name = begins.said.0 in
    let number : version ≡ 1 → name ≡ record { namespace = 0; id = length (names_in (streams d)) + 1 } = λ one.
    let space : name.namespace ≡ 0 = zero_space words begins.said (ap (λ v. stream_said v words) (sym one) ∙ begins.is) in
    let id : name.id ≡ length (names_in (streams d)) + 1 = let long = length-map (streams d) (λ (p : PlanData). p.name) in let first : (version == 2 || name.id == length (streams d) + 1) ≡ true = begins.order in grind (arith, nat_tests) in
    λ i. record { namespace = space i; id = id i }
    in
    subst (AreLawfulNames version) (sym begins.names) (lawful_end version (names_in (streams d)) name lawful begins.new number begins.small)

-- ---- any line

kept : (version : ℕ) (d e : Draft) → SameNames d e → AreLawfulNames version (names_in (streams d)) → AreLawfulNames version (names_in (streams e))
kept version d e s lawful = subst (AreLawfulNames version) (sym s) lawful

-- the keyword of a stream line
abbrev pub begins_stream : Keyword → Bool
begins_stream StreamLine = true
begins_stream _ = false

-- a line that is taken up begins a stream, or leaves the names
pub keyword_told : (version : ℕ) (names : List Name) (keyword : Keyword) (words : List (List ℕ)) (d e : Draft) (P : Type 0) → with_keyword version names keyword words d ≡ Ok e → (begins_stream keyword ≡ true → with_stream version words d ≡ Ok e → P) → (begins_stream keyword ≡ false → SameNames d e → P) → P
keyword_told version names StreamLine words d e P h begins stays = begins refl h
keyword_told version names MemoryLine words d e P h begins stays = stays refl (memory_same words d e h)
keyword_told version names ResultsLine words d e P h begins stays = stays refl (results_same words d e h)
keyword_told version names PutLine words d e P h begins stays = stays refl (puts_same words d e h)
keyword_told version names FillLine words d e P h begins stays = stays refl (fill_same words d e h)
keyword_told version names FlushLine words d e P h begins stays = stays refl (flush_same version names words d e h)
keyword_told version names FinishLine words d e P h begins stays = stays refl (finish_same words d e h)
keyword_told version names TokenLine words d e P h begins stays = stays refl (token_same words d e h)
keyword_told version names CloseLine words d e P h begins stays = stays refl (close_same words d e h)
keyword_told version names DumpLine words d e P h begins stays = stays refl (dump_same words d e h)

keyword_lawful : (version : ℕ) (names : List Name) (keyword : Keyword) (words : List (List ℕ)) (d e : Draft) → with_keyword version names keyword words d ≡ Ok e → AreLawfulNames version (names_in (streams d)) → AreLawfulNames version (names_in (streams e))
keyword_lawful version names keyword words d e h lawful = keyword_told version names keyword words d e (AreLawfulNames version (names_in (streams e))) h (λ b begun. stream_lawful version words d e begun lawful) (λ b stays. kept version d e stays lawful)

line_lawful : (version : ℕ) (names : List Name) (name : List ℕ) (words : List (List ℕ)) (d e : Draft) → with_line version names name words d ≡ Ok e → AreLawfulNames version (names_in (streams d)) → AreLawfulNames version (names_in (streams e))
unfolding with_line
line_lawful version names name words d e h = let keyword = bound (or_error Word (keyword_of name)) _ e h in keyword_lawful version names keyword.0 words d e keyword.2

pub plain : {A : Type 0} (n : ℕ) (r : Result A Kind) (x : A) → at_line n r ≡ Ok x → r ≡ Ok x
plain n (Ok y) x e = cc
plain n (Err kind) x e = absurd cc

by_remark : (remark : Bool) (n : ℕ) (d e : Draft) (r : Result Draft Kind) (P : Draft → Type 0) → cond remark (Ok d) (at_line n r) ≡ Ok e → P d → (r ≡ Ok e → P e) → P e
by_remark true n d e r P h before taken = let s : d ≡ e = cc in subst P s before
by_remark false n d e r P h before taken = taken (plain n r e h)

-- a line that is taken up leaves the names of the streams lawful
pub numbered_lawful : (version : ℕ) (names : List Name) (n : ℕ) (words : List (List ℕ)) (d e : Draft) → numbered version names n words d ≡ Ok e → AreLawfulNames version (names_in (streams d)) → AreLawfulNames version (names_in (streams e))
unfolding numbered
numbered_lawful version names n [] d e h lawful = let s : d ≡ e = cc in subst (λ (x : Draft). AreLawfulNames version (names_in (streams x))) s lawful
numbered_lawful version names n (name ∷ words) d e h lawful =
    by_remark (is_remark name) n d e (with_line version names name words d) (λ (x : Draft). AreLawfulNames version (names_in (streams x))) h lawful (λ taken. line_lawful version names name words d e taken lawful)
