use Rattle.verify_input.proofs.Names.{◌≡◌, true, length, sym, ap, subst, ◌∙◌, [], ◌∷◌, dump_text, may_be_told, told_decides, IsLine, Dump, EndsWith, IsBad, past_of}
use Rattle.verify_input.proofs.Feeds.{dump_line}
use Rattle.verify_input.proofs.Dues.{alone}
use Rattle.verify_input.proofs.Telling.{Told, dump_bad, dump_judged}
use Rattle.verify_input.proofs.sections.take_dump.Goals as goal
use Rattle.verify_input.proofs.sections.take_dump.Goals.{After-may_be_told}

-- what is read is the only value that may be told, if it may
told : (c : After-may_be_told) → Told c.args.history.plans.now (past_of c.args.history) c.args.stream c.args.dump c.args.rest.now c.value_before_end-value.result c.may_be_told.result
told c =
    let p = c.args.history.plans.now in
    let h = past_of c.args.history in
    let s = c.args.stream in
    let dump = c.args.dump in
    let followed = c.args.history.followed.now in
    let decides = told_decides p h followed s dump c.requires.history.followed c.requires.known c.requires.there in
    let count : length c.bytes.result.now ≡ length (dump_text s dump.0 dump.1 0) = ap length (alone c.bytes.ensures c.put_dump.ensures.bytes c.clear.ensures.bytes) in
    record {
      reads = λ other ends. c.value_before_end-value.ensures other (subst (λ n. EndsWith c.args.rest.now.text.now n other) (sym count) ends);
      small = λ other may. c.may_be_told.ensures.small other (subst (λ n. may_be_told followed s dump.1 n other ≡ true) (sym c.requires.least) ((decides other).1 may));
      right = λ e. (decides c.value_before_end-value.result).0 (subst (λ n. may_be_told followed s dump.1 n c.value_before_end-value.result ≡ true) c.requires.least (sym c.may_be_told.ensures.told ∙ e));
      all = λ may. c.may_be_told.ensures.told ∙ subst (λ n. may_be_told followed s dump.1 n c.value_before_end-value.result ≡ true) (sym c.requires.least) ((decides c.value_before_end-value.result).1 may);
    }

pub returns-then-not-may_be_told : goal.returns-then-not-may_be_told
returns-then-not-may_be_told c = record {
  ok = tt;
  err = subst (IsBad c.args.history.plans.now (past_of c.args.history) (Dump c.args.stream c.args.dump ∷ []) 0 c.args.rest.now) (sym c.off.ensures)
      (dump_bad (told (goal.at.returns-then-not-may_be_told c).After-may_be_told) c.if-not-may_be_told.true);
}

pub take-requires : goal.take-requires
take-requires c = record { line = subst IsLine (sym (alone c.bytes-2.ensures c.put_dump-2.ensures.bytes c.clear-2.ensures.bytes)) (dump_line _ _ _ _); other = λ e. cc }

pub returns : goal.returns
returns c =
    dump_judged (told (goal.at.returns c).After-may_be_told) c.if-not-may_be_told.false c.take.result
    (rw (alone c.bytes-2.ensures c.put_dump-2.ensures.bytes c.clear-2.ensures.bytes) at (c.take.ensures c.args.history.plans.now (past_of c.args.history)))
