use Rattle.std.proofs.Common.{◌≡◌, ℕ, suc, ◌+◌, List, [], ◌∷◌, ◌++◌, length, refl, sym, ap, subst, ◌∙◌, arith}
use Rattle.std.specs.List.{All, range_with_len}
use Rattle.std.proofs.lemmas.List.{length_push}
use Rattle.std.proofs.lemmas.List.Elements.{All-head, All-tail}
use Rattle.gpu_journal.specs.declared.event.Event.{Event}
use Rattle.gpu_journal.specs.Dumps.{dumps_of}
use Rattle.gpu_hall.specs.Halls.{HallData}
use Rattle.gpu_threads.specs.Clients.{AreClientsFrom}
use Rattle.gpu_threads.specs.Dumps.{AreRead, AreAllRead, IsThrough}
use Rattle.gpu_threads.proofs.Crew.{head_at, tail_from}
use Rattle.gpu_threads.proofs.Told.{one_more_read}
use Rattle.gpu_threads.proofs.reading.all_read.Goals as goal

one_longer : {X : Type 0} (old now : List X) (x : X) → now ≡ old ++ x ∷ [] → length now ≡ length old + 1
one_longer old now x pushed = ap length pushed ∙ length_push old x

pub loop-client-init : goal.loop-client-init
loop-client-init g c =
    let N = g.N.Naming in
    let p = N.plans in
    let is : c.args.clients.items ≡ c.into_iter-client-iterator.result.rest.items = cc in
    let none : c.in_ok-all.all.items ≡ [] = c.in_ok-all.ensures.items in
    let many : length c.args.clients.items ≡ length p.plans = c.requires.clients.many in
    let count = ap length is in
    let zero = ap length none in
    let first : 1 ≡ suc (length c.in_ok-all.all.items) = omega (arith, zero) in
    record {
      same = refl;
      left = subst (λ (s : ℕ). AreClientsFrom p N.words N.result_words N.queues s c.into_iter-client-iterator.result.rest.items) first (subst (AreClientsFrom p N.words N.result_words N.queues 1) is c.requires.clients.each);
      through = subst (All (IsThrough p c.args.hall.now.past)) is c.requires.through;
      many = omega (arith, zero, count, many);
      done = subst (λ (all : List (List (ℕ × ℕ × ℕ))). AreAllRead p c.args.hall.now.past (range_with_len 1 (length all)) all) (sym none) tt;
    }

pub read_of-requires : goal.read_of-requires
read_of-requires g c =
    let N = g.N.Naming in
    let i = c.loop-client.invariant in
    let s = suc (length c.loop-client.all.items) in
    let before = c.loop-client.client-iterator.rest.items in
    let client = c.in-Some.client in
    let rest = c.next.new.self.rest.items in
    let left : before ≡ client ∷ rest = c.in-Some.ensures.steps.0 in
    record {
      client = (head_at N.plans N.words N.result_words N.queues s before rest client left i.left).its;
      words = c.requires.words;
      through = All-head (IsThrough N.plans c.loop-client.hall.past) client rest (subst (All (IsThrough N.plans c.loop-client.hall.past)) left i.through);
    }

pub loop-client-preserved : goal.loop-client-preserved
loop-client-preserved g c =
    let N = g.N.Naming in
    let p = N.plans in
    let h = c.loop-client.hall.past in
    let i = c.loop-client.invariant in
    let n = length c.loop-client.all.items in
    let before = c.loop-client.client-iterator.rest.items in
    let client = c.in-Some.client in
    let rest = c.next.new.self.rest.items in
    let left : before ≡ client ∷ rest = c.in-Some.ensures.steps.0 in
    let reads = c.read_of.result in
    let now = c.push.new.self.items in
    let pushed = c.in_ok-push.ensures.items in
    let longer : length now ≡ n + 1 = one_longer c.loop-client.all.items now reads pushed in
    let same = c.read_of.ensures.same in
    let past = ap (λ (d : HallData). d.past) same in
    let at = head_at p N.words N.result_words N.queues (suc n) before rest client left i.left in
    let place : client.stream ≡ 1 + n = (let stream = at.stream in omega (arith, stream)) in
    let next : suc (suc n) ≡ suc (length now) = omega (arith, longer) in
    let less = ap length left in
    let many = i.many in
    let done : AreAllRead p h (range_with_len 1 (n + 1)) now = one_more_read p h 1 n c.loop-client.all.items now reads pushed i.done (subst (λ (s : ℕ). AreRead p h s (dumps_of p h s) reads) place c.read_of.ensures.read) in
    record {
      same = same ∙ i.same;
      left = subst (λ (s : ℕ). AreClientsFrom p N.words N.result_words N.queues s rest) next (tail_from p N.words N.result_words N.queues (suc n) before rest client left i.left);
      through = subst (λ (h : List Event). All (IsThrough p h) rest) (sym past) (All-tail (IsThrough p h) client rest (subst (All (IsThrough p h)) left i.through));
      many = omega (arith, many, less, longer);
      done = subst (λ (h : List Event). AreAllRead p h (range_with_len 1 (length now)) now) (sym past) (subst (λ (k : ℕ). AreAllRead p h (range_with_len 1 k) now) (sym longer) done);
    }

pub returns-clause-read : goal.returns-clause-read
returns-clause-read g c =
    let p = g.N.Naming.plans in
    let i = c.loop-client.invariant in
    let all = c.loop-client.all.items in
    let rest = c.loop-client.client-iterator.rest.items in
    let none = c.in-None.ensures.steps.0 in
    let many = i.many in
    let count : length all ≡ length p.plans = omega (arith, none, many) in
    subst (λ (d : HallData). AreAllRead p d.past (range_with_len 1 (length p.plans)) all) i.same (subst (λ (k : ℕ). AreAllRead p c.loop-client.hall.past (range_with_len 1 k) all) count i.done)
