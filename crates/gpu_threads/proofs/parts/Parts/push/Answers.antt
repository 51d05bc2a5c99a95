use Rattle.std.proofs.Common.{[], ap, ◌∙◌, None, arith}
use Rattle.shm_words.specs.Seen as seen
use Rattle.flush_queue.specs.Seen.{EndData, fresh_end}
use Rattle.result_words.specs.Seen.{ReaderData, writer_at, reader_at}
use Rattle.gpu_threads.proofs.Made.{one_more, room_taken}
use Rattle.gpu_threads.proofs.parts.Parts.push.Goals as goal

pub push_reserved-requires : goal.push_reserved-requires
push_reserved-requires g c = let room = c.in_ok-reserve.ensures.books.room in omega (arith, room)

pub push_reserved-requires-2 : goal.push_reserved-requires-2
push_reserved-requires-2 g c = let room = c.in_ok-reserve.ensures.sides.room in omega (arith, room)

pub push_reserved-requires-3 : goal.push_reserved-requires-3
push_reserved-requires-3 g c = let room = c.in_ok-reserve.ensures.queues.room in omega (arith, room)

pub push_reserved-requires-4 : goal.push_reserved-requires-4
push_reserved-requires-4 g c = let room = c.in_ok-reserve.ensures.takers.room in omega (arith, room)

pub push_reserved-requires-5 : goal.push_reserved-requires-5
push_reserved-requires-5 g c = let room = c.in_ok-reserve.ensures.results.room in omega (arith, room)

pub push_reserved-requires-6 : goal.push_reserved-requires-6
push_reserved-requires-6 g c = let room = c.in_ok-reserve.ensures.words.room in omega (arith, room)

pub push_reserved-requires-7 : goal.push_reserved-requires-7
push_reserved-requires-7 g c = let room = c.in_ok-reserve.ensures.clients.room in omega (arith, room)

pub returns : goal.returns
returns g c = λ plans number was.
    let plan = c.args.plan.now in
    let old = c.args.self.now in
    let mid = c.reserve.new.self in
    let room = c.in_ok-reserve.ensures in
    let word = c.in_ok-words.words in
    let result = c.in_ok-results.results in
    let queue = c.in_ok-queue.queue in
    let pass = c.in_ok-queue.ensures.pass ∙ c.in_ok-words.ensures.client in
    let poster = c.in_ok-queue.ensures.poster ∙ ap (λ (pass : seen.ClientData). fresh_end queue pass.table pass.plan) c.in_ok-words.ensures.client in
    let reader = c.in_ok-results.ensures.reader ∙ ap (reader_at result) c.result_places.ensures in
    let client = c.in_ok-client.ensures
    ∙ ap (λ (pass : seen.ClientData). record { stream = c.args.stream; pass = pass; poster = c.in_ok-queue.poster; held = None; reader = c.in_ok-results.reader; due = None; dumps = [] }) pass
    ∙ ap (λ (end : EndData). record { stream = c.args.stream; pass = seen.client_at word plan; poster = end; held = None; reader = c.in_ok-results.reader; due = None; dumps = [] }) poster
    ∙ ap (λ (reader : ReaderData). record { stream = c.args.stream; pass = seen.client_at word plan; poster = fresh_end queue word plan; held = None; reader = reader; due = None; dumps = [] }) reader in
    one_more plans plan old _ c.args.stream
    record { words = (word, result); queue = queue; client = c.in_ok-client.client; side = record { pass = c.in_ok-words.side }; results = c.in_ok-results.writer; book = c.in_ok-book.book; taker = c.in_ok-queue.taker }
    number
    record {
      client = client;
      side = c.in_ok-words.ensures.service;
      writer = c.in_ok-results.ensures.writer ∙ ap (writer_at result) c.result_places.ensures;
      taker = c.in_ok-queue.ensures.taker ∙ ap (λ (pass : seen.ClientData). fresh_end queue pass.table pass.plan) c.in_ok-words.ensures.client;
      blank = record { kept = c.in_ok-book.ensures.kept; out = c.in_ok-book.ensures.out };
    }
    record {
      words = room_taken old.words mid.words _ _ room.words c.push_reserved-6.ensures.items;
      queues = room_taken old.queues mid.queues _ _ room.queues c.push_reserved-3.ensures.items;
      clients = room_taken old.clients mid.clients _ _ room.clients c.push_reserved-7.ensures.items;
      sides = room_taken old.service.sides mid.service.sides _ _ room.sides c.push_reserved-2.ensures.items;
      results = room_taken old.service.results mid.service.results _ _ room.results c.push_reserved-5.ensures.items;
      books = room_taken old.service.books mid.service.books _ _ room.books c.push_reserved.ensures.items;
      takers = room_taken old.service.takers mid.service.takers _ _ room.takers c.push_reserved-4.ensures.items;
    }
    was
