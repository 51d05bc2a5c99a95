use Rattle.std.proofs.Common.{◌≡◌, ◌≢◌, ℕ, ◌+◌, ◌<◌, true, false, List, [], ◌∷◌, ◌++◌, length, take, drop, refl, sym, ap, subst, ◌∙◌, arith, rules, length-append}
use Rattle.std.specs.Prelude.{Result, Ok, Err, IfErr, option_to_list}
use Rattle.std.proofs.lemmas.List.{take_more, drop_more, drop_all, take-append-drop}
use Rattle.gpu_store.specs.declared.op.Op.{Op}
use Rattle.gpu_fetch.specs.Fetched.{FetchedData}
use Rattle.sync_core.specs.Standing.{is_open}
use Rattle.gpu_journal.specs.Waits.{standing_of}
use Rattle.gpu_house.specs.declared.answers.Next.TheVariants.{More}
use Rattle.gpu_house.specs.Batches.{member_words, batch_words}
use Rattle.gpu_house.proofs.Members.{batch_words_more}
use Rattle.gpu_house.specs.Committing.{Stage, IsStill, AreDone, Commits, GoneInPart}
use Rattle.gpu_house.proofs.Committed.{Took, Stands, stands_first, may_step, goes_on, commits, ready, kept_at, in_part, all_gone}
use Rattle.gpu_house.proofs.house.House.step_batch.Given.{Over}
use Rattle.gpu_house.proofs.house.House.step_batch.Goals as goal
use Rattle.gpu_house.proofs.house.House.step_batch.Goals.{After-member-member, After-add}

-- nothing else than an error is said of one
given_err : {T E P : Type 0} (r : Result T E) → P → IfErr r (λ _. P)
given_err (Ok t) p = tt
given_err (Err e) p = p

pub loop-index-init : goal.loop-index-init
loop-index-init g c =
    let S = g.P.ServiceSide in
    let p = g.N.Naming.plans in
    let x : Stage g.row.P.Denot g.row.P-Note.Denot g.row.P-Results.Denot = record { house = c.args.self.now; out = c.args.run.now; drawn = c.args.drawn.now.items } in
    let open' : is_open (standing_of p x.house.core.past x.out.run.stream) ≡ true = subst (λ (t : ℕ). is_open (standing_of p x.house.core.past t) ≡ true) c.stream.ensures c.in_default.ensures.none in
    record {
      stands = stands_first S.side S.mark S.belongs S.note_belongs S.results_belong p c.args.words.now x c.args.batch open' c.requires c.count-index-end.ensures.copies c.count-index-end.ensures.end c.shows_fit.ensures.list;
      from = refl;
    }

-- ---- at a member

module _ (g : Over) (c : goal.After-member-member g) where
  -- before the batch, and as the loop has left it
  abbrev old : Stage g.row.P.Denot g.row.P-Note.Denot g.row.P-Results.Denot
  old = record { house = c.args.self.now; out = c.args.run.now; drawn = c.args.drawn.now.items }

  abbrev now : Stage g.row.P.Denot g.row.P-Note.Denot g.row.P-Results.Denot
  now = record { house = c.loop-index.self; out = c.loop-index.run; drawn = c.loop-index.drawn.items }

  -- the members before it, and those after it
  abbrev first : List FetchedData
  first = take c.loop-index.index c.args.batch

  abbrev rest : List FetchedData
  rest = drop (c.loop-index.index + 1) c.args.batch

  within : c.loop-index.index < length c.args.batch
  within = omega (arith, c.loop-index-test.true, c.count-index-end.ensures.count)

  left : drop c.loop-index.index c.args.batch ≡ c.member-member.result ∷ rest
  left = drop_more c.args.batch c.loop-index.index c.member-member.result within ∙ ap (λ (m : FetchedData). m ∷ rest) (sym c.member-member.ensures.is)

  stands : Stands g.P.ServiceSide.side g.P.ServiceSide.mark g.P.ServiceSide.belongs g.P.ServiceSide.note_belongs g.P.ServiceSide.results_belong g.N.Naming.plans c.args.words.now old now first (c.member-member.result ∷ rest)
  stands = subst (Stands g.P.ServiceSide.side g.P.ServiceSide.mark g.P.ServiceSide.belongs g.P.ServiceSide.note_belongs g.P.ServiceSide.results_belong g.N.Naming.plans c.args.words.now old now first) left c.loop-index.invariant.stands

  all : c.args.batch ≡ first ++ c.member-member.result ∷ rest
  all = sym (take-append-drop c.loop-index.index c.args.batch) ∙ ap (λ (l : List FetchedData). first ++ l) left

  -- those before it and it
  longer : first ++ c.member-member.result ∷ [] ≡ take (c.loop-index.index + 1) c.args.batch
  longer = ap (λ (m : FetchedData). first ++ m ∷ []) c.member-member.ensures.is ∙ sym (take_more c.args.batch c.loop-index.index c.member-member.result within)

-- its words end where the list of the batch can
pub overflow_add-from : goal.overflow_add-from
overflow_add-from g c =
    let words = ap length c.words.ensures.value in
    let end = c.member-member.ensures.end in
    search rules

pub step-requires : goal.step-requires
step-requires g c = may_step _ _ _ _ _ _ _ (stands g (goal.at.step-requires g c).After-member-member)

-- the steps of the members before it stay
part : (g : Over) (m : After-member-member g) (new : Stage g.row.P.Denot g.row.P-Note.Denot g.row.P-Results.Denot) → IsStill (now g m) new → GoneInPart g.P.ServiceSide.side g.P.ServiceSide.mark g.N.Naming.plans (old g m) new (member_words m.args.batch)
part g m new still = subst (λ (l : List FetchedData). GoneInPart g.P.ServiceSide.side g.P.ServiceSide.mark g.N.Naming.plans (old g m) new (member_words l)) (sym (all g m)) (in_part _ _ _ _ _ _ _ (stands g m) new still)

pub returns-in_err-reserve-clause-err : goal.returns-in_err-reserve-clause-err
returns-in_err-reserve-clause-err g c =
    let m = (goal.at.returns-in_err-reserve-clause-err g c).After-member-member in
    let new : Stage g.row.P.Denot g.row.P-Note.Denot g.row.P-Results.Denot = record { house = c.loop-index.self; out = c.loop-index.run; drawn = c.reserve.new.self.items } in
    given_err _ (part g m new record { house = record { past = refl; outs = refl; slots = refl; results = refl }; out = refl; drawn = c.reserve.ensures.items })

pub returns-in_err-progress-clause-err : goal.returns-in_err-progress-clause-err
returns-in_err-progress-clause-err g c =
    let m = (goal.at.returns-in_err-progress-clause-err g c).After-member-member in
    let new : Stage g.row.P.Denot g.row.P-Note.Denot g.row.P-Results.Denot = record { house = c.step.new.self; out = c.step.new.run; drawn = c.reserve.new.self.items } in
    given_err _ (part g m new record { house = c.in_err-progress.ensures.err; out = c.in_err-progress.ensures.same; drawn = c.reserve.ensures.items })

-- ---- once its step was made

module _ (g : Over) (c : After-add g) where
  abbrev member : goal.After-member-member g
  member = (goal.at.After-add g c).After-member-member

  abbrev new : Stage g.row.P.Denot g.row.P-Note.Denot g.row.P-Results.Denot
  new = record { house = c.step.new.self; out = c.step.new.run; drawn = c.add.new.drawn.items }

  took : Took g.P.ServiceSide.side g.P.ServiceSide.mark g.P.ServiceSide.belongs g.P.ServiceSide.note_belongs g.P.ServiceSide.results_belong g.N.Naming.plans c.args.words.now (now g member) new c.member-member.result c.in_ok-progress.progress
  took = record {
    step = c.in_ok-progress.ensures.steps;
    rest = c.in_ok-progress.ensures.keeps;
    listed = c.add.ensures ∙ ap (λ (ops : List Op). ops ++ option_to_list c.in_ok-progress.progress.drawn) c.reserve.ensures.items;
  }

pub loop-index-preserved : goal.loop-index-preserved
loop-index-preserved g c =
    let S = g.P.ServiceSide in
    let path = goal.at.loop-index-preserved g c in
    let m = path.After-member-member in
    record {
      stands = subst (λ (l : List FetchedData). Stands S.side S.mark S.belongs S.note_belongs S.results_belong g.N.Naming.plans c.args.words.now (old g m) (new g path.After-add) l (rest g m)) (longer g m)
          (goes_on _ _ _ _ _ _ _ (stands g m) (took g path.After-add) c.in-More.is);
      from =
          let inv = c.loop-index.invariant.from in
          let words = ap length c.words.ensures.value in
          let split : length (batch_words (take (c.loop-index.index + 1) c.args.batch)) ≡ length (batch_words (first g m)) + length c.member-member.result.words =
          ap (λ (l : List FetchedData). length (batch_words l)) (sym (longer g m)) ∙ ap length (batch_words_more (first g m) c.member-member.result) ∙ length-append (batch_words (first g m)) c.member-member.result.words in
          omega (arith, inv, words, split);
    }

pub returns-in_default-next : goal.returns-in_default-next
returns-in_default-next g c =
    let path = goal.at.returns-in_default-next g c in
    let m = path.After-member-member in
    let k = path.After-add in
    let stops : c.in_ok-progress.progress.next ≢ More = c.in_default-next.not-More in
    let whole = kept_at _ _ _ _ _ _ _ (stands g m) (took g k) in
    record {
      commits = subst (λ (l : List FetchedData). Commits g.P.ServiceSide.side g.P.ServiceSide.mark g.N.Naming.plans (old g m) (new g k) (member_words l) c.in_ok-progress.progress.next) (sym (all g m)) (commits _ _ _ _ _ _ _ (stands g m) (took g k) stops);
      end = c.in_ok-progress.ensures.steps.end;
      ready = ready _ _ _ _ _ _ _ (stands g m) (took g k) stops;
      draws = whole.draws;
      keeps = whole.rest;
      err = tt;
    }

pub returns-clause-commits : goal.returns-clause-commits
returns-clause-commits g c =
    let S = g.P.ServiceSide in
    let p = g.N.Naming.plans in
    let i = c.loop-index.index in
    let old : Stage g.row.P.Denot g.row.P-Note.Denot g.row.P-Results.Denot = record { house = c.args.self.now; out = c.args.run.now; drawn = c.args.drawn.now.items } in
    let now : Stage g.row.P.Denot g.row.P-Note.Denot g.row.P-Results.Denot = record { house = c.loop-index.self; out = c.loop-index.run; drawn = c.loop-index.drawn.items } in
    let all : take i c.args.batch ++ drop i c.args.batch ≡ c.args.batch = take-append-drop i c.args.batch in
    let none : drop i c.args.batch ≡ [] = drop_all i c.args.batch (omega (arith, c.loop-index-test.false, c.count-index-end.ensures.count)) in
    subst (λ (l : List FetchedData). AreDone S.side S.mark p old now (member_words l) false) all
    (all_gone S.side S.mark S.belongs S.note_belongs S.results_belong p c.args.words.now old now (take i c.args.batch) (drop i c.args.batch) c.loop-index.invariant.stands none (subst (λ (l : List FetchedData). 0 < length l) (sym all) c.count-index-end.ensures.end.some))
