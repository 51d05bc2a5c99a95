-- The entries that a step consumes: some, and no more than lie between the stream's position and the put of its flush.
use Rattle.std.proofs.Common.{◌≡◌, ◌≢◌, ℕ, ◌+◌, ◌-◌, ◌*◌, ◌/◌, ◌%◌, ◌≤◌, ◌<◌, Bool, true, false, Result, Ok, Err, List, cond, nat_le, refl, sym, ap, subst, ◌∙◌, ⊎_elim, arith, IsTrue, IsOk}
use Rattle.std.proofs.lemmas.Bool.{cases_lt}
use Rattle.std.proofs.lemmas.Bool.Decides.{nat_tests}
use Rattle.std.proofs.lemmas.Nat.{div-add-mod', mod-mul-add}
use Rattle.std.specs.Prelude.{nat_lt}
use Rattle.gpu_word.specs.Header.{size_of, id_of}
use Rattle.gpu_word.specs.Outcome.{◌>>=◌, unless, or_error}
use Rattle.gpu_cmd.specs.declared.command.Command.{Command}
use Rattle.gpu_cmd.specs.declared.error.CmdError.{CmdError}
use Rattle.gpu_cmd.specs.declared.error.CmdError.TheVariants.{InvalidSize, OutOfBounds, UnknownCommand, InvalidArguments, Quota}
use Rattle.gpu_cmd.specs.declared.facts.StreamFacts.{StreamFacts}
use Rattle.gpu_cmd.specs.declared.shape.Shape.{Shape}
use Rattle.gpu_cmd.specs.Lawful.{IsLawfulAreas, room}
use Rattle.gpu_cmd.specs.Table.{row_of, fits, ring_words_of}
use Rattle.gpu_cmd.specs.Checks.{headed, is_within_quota}
use Rattle.gpu_cmd.specs.Copied.{value_in, copied}
use Rattle.gpu_cmd.proofs.Copies.{judged_headed, judged_in, judged_out}
use Rattle.gpu_plan.specs.Plans.{PlansData, plan_of}
use Rattle.stream_state.specs.State.{IsBounded}
use Rattle.stream_state.specs.Steps.{header_in}
use Rattle.stream_state.specs.Accepted.{IsAccepted}
use Rattle.stream_state.proofs.Finding.{finds}
use Rattle.stream_state.proofs.Telling.{verdict_passed}
use Rattle.gpu_journal.specs.declared.event.Event.{Event}
use Rattle.gpu_journal.specs.declared.event.Event.TheVariants.{Step}
use Rattle.gpu_journal.specs.World.{state_of}
use Rattle.gpu_journal.specs.Facts.{put_of, facts_at, verdict_at}
use Rattle.gpu_journal.specs.Legal.{Obeys}

-- ---- check 2

second_passed : (a b : Bool) (rest : Result Shape CmdError) (shape : Shape) → (unless a InvalidSize >>= λ _. unless b OutOfBounds >>= λ _. rest) ≡ Ok shape → IsTrue b
second_passed false b rest shape e = absurd (cc)
second_passed true false rest shape e = absurd (cc)
second_passed true true rest shape e = refl

headed_room : (entry : ℕ) (facts : StreamFacts) (shape : Shape) → headed entry facts ≡ Ok shape → IsTrue (nat_le (size_of entry) (room facts))
unfolding headed
headed_room entry facts shape e =
    second_passed (nat_le 1 (size_of entry)) (nat_le (size_of entry) (room facts))
    (or_error UnknownCommand (row_of (id_of entry)) >>= λ row. unless (fits row (size_of entry)) InvalidArguments >>= λ _. unless (is_within_quota (facts.fetched + ring_words_of (id_of entry) (size_of entry))) Quota >>= λ _. Ok (record { id = id_of entry; size = size_of entry; ring_words = ring_words_of (id_of entry) (size_of entry) }))
    shape e

by_head : (m : ℕ → ℕ) (facts : StreamFacts) (command : Command) (head : Result Shape CmdError) → headed (m facts.get) facts ≡ head → judged_headed m facts head ≡ Ok command → IsTrue (nat_le (size_of (m facts.get)) (room facts))
by_head m facts command (Err error) e j = absurd (cc)
by_head m facts command (Ok shape) e j = headed_room (m facts.get) facts shape e

-- a command that is accepted ends where its segment does at the latest, and its put is a place of the ring
copy_room : (words : List (ℕ × ℕ)) (facts : StreamFacts) (command : Command) → copied words facts ≡ Ok command → (facts.put < facts.areas.ring) × IsTrue (nat_le (size_of (value_in words facts.get)) (room facts))
unfolding copied
copy_room words facts command e = ⊎_elim in_range out_of_range (cases_lt facts.put facts.areas.ring)
  where
    in_range : facts.put < facts.areas.ring → (facts.put < facts.areas.ring) × IsTrue (nat_le (size_of (value_in words facts.get)) (room facts))
    in_range r = (r, by_head (value_in words) facts command (headed (value_in words facts.get) facts) refl (sym (judged_in (value_in words) facts r) ∙ e))

    out_of_range : facts.areas.ring ≤ facts.put → (facts.put < facts.areas.ring) × IsTrue (nat_le (size_of (value_in words facts.get)) (room facts))
    out_of_range r = let wrong = judged_out (value_in words) facts r in absurd (cc)

-- ---- a step of a legal history

pub record Consumes (facts : StreamFacts) (size : ℕ) : Type 0 where
  pub in_ring : facts.put < facts.areas.ring
  pub some : 1 ≤ size
  pub within : IsTrue (nat_le size (room facts))

pub step_consumes : (p : PlansData) (h : List Event) (s : ℕ) (words : List (ℕ × ℕ)) → IsLawfulAreas (plan_of p s).areas → IsBounded (state_of p h s) → Obeys p h (Step s words) → Consumes (facts_at p h s) (size_of (header_in words))
step_consumes p h s words lawful bounded o = by (verdict_at p h s words) refl o.rule_9
  where
    by : (answer : Result Command CmdError) → verdict_at p h s words ≡ answer → IsOk answer → Consumes (facts_at p h s) (size_of (header_in words))
    by (Ok command) e ok =
        let facts = facts_at p h s in
        let passed = verdict_passed words facts (state_of p h s) command e in
        let fits' = copy_room words facts command passed.0 in
        let size = size_of (value_in words facts.get) in
        let accepted : IsAccepted (plan_of p s).areas words (state_of p h s) command size = record { put = put_of p h s; more = o.rule_7.0; copy = record { places = o.rule_7.1; verdict = passed.0 }; sized = refl } in
        let found = finds (plan_of p s).areas words (state_of p h s) command size lawful bounded accepted in
        subst (Consumes facts) found.sized record { in_ring = fits'.0; some = found.entry; within = fits'.1 }
    by (Err error) e ok = absurd (cc)

-- ---- how far it is round the ring

-- how far it is from one place of a ring to another; to a place that the ring does not have it is no way
abbrev pub gap : ℕ → ℕ → ℕ → ℕ
gap ring get put = cond (nat_lt put ring) (cond (nat_le get put) (put - get) (ring - get + put)) 0

pub gap_most : (ring get put : ℕ) → get < ring → gap ring get put ≤ ring
gap_most ring get put g = by (nat_lt put ring) refl (nat_le get put) refl
  where
    by : (a : Bool) → nat_lt put ring ≡ a → (b : Bool) → nat_le get put ≡ b → cond a (cond b (put - get) (ring - get + put)) 0 ≤ ring
    by true e true f = let lt : put < ring = grind (arith, nat_tests) in omega arith
    by true e false f = let lt : put < get = grind (arith, nat_tests) in omega arith
    by false e b f = omega arith

-- the place after some entries that do not go past the end of a ring
pub moved_place : (entries size ring get : ℕ) → get ≡ entries % ring → get + size < ring → (entries + size) % ring ≡ get + size
moved_place entries size ring get e h =
    let split : entries / ring * ring + entries % ring ≡ entries = div-add-mod' entries ring in
    let is : entries / ring * ring + (get + size) ≡ entries + size = omega arith in
    ap (λ n. n % ring) (sym is) ∙ mod-mul-add (entries / ring) ring (get + size) h

pub round_place : (entries size ring get : ℕ) → 0 < ring → get ≡ entries % ring → get + size ≡ ring → (entries + size) % ring ≡ 0
round_place entries size ring get pos e h =
    let split : entries / ring * ring + entries % ring ≡ entries = div-add-mod' entries ring in
    let is : (entries / ring + 1) * ring + 0 ≡ entries + size = omega arith in
    ap (λ n. n % ring) (sym is) ∙ mod-mul-add (entries / ring + 1) ring 0 pos

gap_ahead : (ring get put : ℕ) → put < ring → get ≤ put → gap ring get put ≡ put - get
gap_ahead ring get put r h = grind (arith, nat_tests)

gap_behind : (ring get put : ℕ) → put < ring → put < get → gap ring get put ≡ ring - get + put
gap_behind ring get put r h = grind (arith, nat_tests)

-- each entry that is consumed makes it shorter
pub gap_falls : (ring entries put size : ℕ) → 0 < ring → entries % ring < ring → put < ring → entries % ring ≢ put → 1 ≤ size → IsTrue (nat_le size (cond (nat_lt (entries % ring) put) put ring - entries % ring))
    → gap ring ((entries + size) % ring) put + 1 ≤ gap ring (entries % ring) put
gap_falls ring entries put size pos g r differ some few = by (nat_lt (entries % ring) put) refl few
  where
    get : ℕ
    get = entries % ring

    ahead : get < put → size ≤ put - get → gap ring ((entries + size) % ring) put + 1 ≤ gap ring get put
    ahead lt le =
        let is = moved_place entries size ring get refl (omega arith) in
        let now : gap ring ((entries + size) % ring) put ≡ put - (get + size) = ap (λ n. gap ring n put) is ∙ gap_ahead ring (get + size) put r (omega arith) in
        let was = gap_ahead ring get put r (omega arith) in
        omega (arith, now, was)

    inside : put < get → size ≤ ring - get → get + size < ring → gap ring ((entries + size) % ring) put + 1 ≤ gap ring get put
    inside lt le end =
        let is = moved_place entries size ring get refl end in
        let now : gap ring ((entries + size) % ring) put ≡ ring - (get + size) + put = ap (λ n. gap ring n put) is ∙ gap_behind ring (get + size) put r (omega arith) in
        let was = gap_behind ring get put r lt in
        omega (arith, now, was)

    whole : put < get → size ≤ ring - get → ring ≤ get + size → gap ring ((entries + size) % ring) put + 1 ≤ gap ring get put
    whole lt le end =
        let is = round_place entries size ring get pos refl (omega arith) in
        let now : gap ring ((entries + size) % ring) put ≡ put - 0 = ap (λ n. gap ring n put) is ∙ gap_ahead ring 0 put r (omega arith) in
        let was = gap_behind ring get put r lt in
        omega (arith, now, was)

    le_of : (a b : ℕ) → IsTrue (nat_le a b) → a ≤ b
    le_of a b h = grind (arith, nat_tests)

    not_ahead : nat_lt get put ≡ false → put ≤ get
    not_ahead e = grind (arith, nat_tests)

    is_ahead : nat_lt get put ≡ true → get < put
    is_ahead e = grind (arith, nat_tests)

    by : (b : Bool) → nat_lt get put ≡ b → IsTrue (nat_le size (cond b put ring - get)) → gap ring ((entries + size) % ring) put + 1 ≤ gap ring get put
    by true e h = ahead (is_ahead e) (le_of size (put - get) h)
    by false e h =
        let most = le_of size (ring - get) h in
        let low = not_ahead e in
        let less : put < get = below put get low differ in
        ⊎_elim (λ end. inside less most end) (λ end. whole less most end) (cases_lt (get + size) ring)
      where
        below : (a b : ℕ) → a ≤ b → b ≢ a → a < b
        below a b l d = grind (arith, nat_tests)
