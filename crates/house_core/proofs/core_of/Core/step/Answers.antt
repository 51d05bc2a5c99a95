use Rattle.std.proofs.Common.{◌≡◌, ℕ, Bool, true, false, not, ◌&&◌, List, ap, sym, subst, ◌∙◌, Result, Ok, Err}
use Rattle.gpu_cmd.specs.declared.command.Command.{Command}
use Rattle.gpu_cmd.specs.declared.error.CmdError.{CmdError}
use Rattle.sync_core.specs.Standing.{is_open}
use Rattle.gpu_journal.specs.declared.event.Event.TheVariants.{Step, Lost}
use Rattle.gpu_journal.specs.declared.event.Why.TheVariants.{Error}
use Rattle.gpu_journal.specs.Waits.{standing_of}
use Rattle.gpu_journal.specs.Facts.{verdict_at}
use Rattle.gpu_journal.specs.Legal.{Obeys}
use Rattle.house_core.specs.Desks.{RunData}
use Rattle.house_core.specs.Core.{CoreData}
use Rattle.house_core.proofs.Fetching.{fetched_for, fetched_step_obeys, fetched_error_obeys}
use Rattle.house_core.proofs.core_of.Core.step.Goals as goal

-- the core that met a run, and its run, are the same
module _ (v now : CoreData) (run met : RunData) (s : ℕ) (core : now ≡ v) (same : met ≡ run) (stream : s ≡ met.stream) where
  there : s ≡ run.stream
  there = stream ∙ ap (λ (run : RunData). run.stream) same

  -- a stream that is neither lost nor closed is open
  open_there : (lost closed : Bool) → lost ≡ (standing_of now.plans now.past s).lost → lost ≡ false → closed ≡ (standing_of now.plans now.past s).closed → closed ≡ false → is_open (standing_of v.plans v.past run.stream) ≡ true
  open_there lost closed is_lost not_lost is_closed not_closed =
      sym (ap (λ (w : CoreData). is_open (standing_of w.plans w.past s)) core ∙ ap (λ (s : ℕ). is_open (standing_of v.plans v.past s)) there)
      ∙ ap (λ (b : Bool). not b && not (standing_of now.plans now.past s).closed) (sym is_lost ∙ not_lost) ∙ ap not (sym is_closed ∙ not_closed)

  judged : (words : List (ℕ × ℕ)) (answer : Result Command CmdError) → answer ≡ verdict_at now.plans now.past s words → verdict_at v.plans v.past run.stream words ≡ answer
  judged words answer is = sym (is ∙ ap (λ (w : CoreData). verdict_at w.plans w.past s words) core ∙ ap (λ (s : ℕ). verdict_at v.plans v.past s words) there)

  step_there : (found words : List (ℕ × ℕ)) → found ≡ words → Obeys v.plans v.past (Step run.stream words) → Obeys now.plans now.past (Step met.stream found)
  step_there found words is obeys =
      subst (λ (w : CoreData). Obeys w.plans w.past (Step met.stream found)) (sym core)
      (subst (λ (run : RunData). Obeys v.plans v.past (Step run.stream found)) (sym same) (subst (λ (words : List (ℕ × ℕ)). Obeys v.plans v.past (Step run.stream words)) (sym is) obeys))

  lost_there : (error : CmdError) (found words : List (ℕ × ℕ)) → found ≡ words → Obeys v.plans v.past (Lost run.stream (Error error) words) → Obeys now.plans now.past (Lost s (Error error) found)
  lost_there error found words is obeys =
      subst (λ (w : CoreData). Obeys w.plans w.past (Lost s (Error error) found)) (sym core)
      (subst (λ (s : ℕ). Obeys v.plans v.past (Lost s (Error error) found)) (sym there) (subst (λ (words : List (ℕ × ℕ)). Obeys v.plans v.past (Lost run.stream (Error error) words)) (sym is) obeys))

pub enter_step-requires-clause-obeys : goal.enter_step-requires-clause-obeys
enter_step-requires-clause-obeys c =
    let v = c.args.self.now in
    let now = c.shows_run.new.self in
    let run = c.args.run.now in
    let met = c.shows_run.new.run in
    let s = c.stream-stream.result in
    let words = c.args.fetched.now.words in
    let core = c.shows_run.ensures.core in
    let same = c.shows_run.ensures.run in
    let stream = c.stream-stream.ensures in
    let open' = open_there v now run met s core same stream c.is_lost.result c.is_closed.result c.is_lost.ensures c.if-is_lost.false c.is_closed.ensures c.if-is_closed.false in
    let is = fetched_for v.plans v.past run c.args.fetched.now.facts c.words-words.result.now words c.requires.own.plan.known open' c.shows_run.ensures.away.shows c.shows_run.ensures.runs c.requires.going c.requires.facts c.words-words.ensures.more c.words-words.ensures.copy.places c.words-words.ensures.value c.requires.may in
    step_there v now run met s core same stream c.words-words.result.now words c.words-words.ensures.value
    (fetched_step_obeys v.plans v.past run c.args.fetched.now.facts words is c.in-Ok.command c.shows_run.ensures.lawful c.shows_run.ensures.legal
    (judged v now run met s core same stream words (Ok c.in-Ok.command) c.in-Ok.ensures.verdict))

pub enter_lost-requires-clause-obeys : goal.enter_lost-requires-clause-obeys
enter_lost-requires-clause-obeys c =
    let v = c.args.self.now in
    let now = c.shows_run.new.self in
    let run = c.args.run.now in
    let met = c.shows_run.new.run in
    let s = c.stream-stream.result in
    let words = c.args.fetched.now.words in
    let core = c.shows_run.ensures.core in
    let same = c.shows_run.ensures.run in
    let stream = c.stream-stream.ensures in
    let open' = open_there v now run met s core same stream c.is_lost.result c.is_closed.result c.is_lost.ensures c.if-is_lost.false c.is_closed.ensures c.if-is_closed.false in
    let is = fetched_for v.plans v.past run c.args.fetched.now.facts c.words-words.result.now words c.requires.own.plan.known open' c.shows_run.ensures.away.shows c.shows_run.ensures.runs c.requires.going c.requires.facts c.words-words.ensures.more c.words-words.ensures.copy.places c.words-words.ensures.value c.requires.may in
    lost_there v now run met s core same stream c.in-Err.error c.words-words.result.now words c.words-words.ensures.value
    (fetched_error_obeys v.plans v.past run c.args.fetched.now.facts words is c.in-Err.error c.shows_run.ensures.lawful c.shows_run.ensures.legal
    (judged v now run met s core same stream words (Err c.in-Err.error) c.in-Err.ensures.verdict))
