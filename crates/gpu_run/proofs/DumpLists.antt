-- The lists of dumps that the code reads.
use Rattle.std.proofs.Common.{◌≡◌, ◌≢◌, ℕ, suc, ◌+◌, ◌≤◌, ◌<◌, Bool, cond, Option, None, Some, Result, Ok, Err, List, [], ◌∷◌, ◌++◌, length, map, drop, get_or, sym, ap, ◌∙◌, arith}
use Rattle.std.specs.Prelude.{slice_get}
use Rattle.std.specs.List.{range_with_len}
use Rattle.std.specs.Result.{OnOk}
use Rattle.std.proofs.lemmas.Bool.{ne_eqb, eq-eqb}
use Rattle.std.proofs.lemmas.List.{append-nil, append_assoc, length-append, drop_more}
use Rattle.std.proofs.lemmas.List.FromFn.{map-range_with_len_more}
use Rattle.std.proofs.lemmas.Option.{slice_get_past, slice_get-get_or}
use Rattle.std.proofs.Math.Seq.{get_or-append_seam}
use Rattle.gpu_run.specs.Clients.{RunClientData, no_client, client_of_stream}
use Rattle.gpu_run.specs.Reading.{dump_now, read_with, read_left}

-- ---- the code that reads

-- where no dump is left, none is read
pub read_none : (dumps : List (ℕ × ℕ)) (read seen : List (ℕ × ℕ × ℕ)) (action : ℕ) (result : ℕ → ℕ) → seen ≡ read → length dumps ≤ length seen → read ≡ read ++ read_with (slice_get dumps (length read)) action result
read_none dumps read seen action result same few =
    let none : slice_get dumps (length read) ≡ None = ap (λ (l : List (ℕ × ℕ × ℕ)). slice_get dumps (length l)) (sym same) ∙ slice_get_past dumps (length seen) few in
    sym (ap (λ (o : Option (ℕ × ℕ)). read ++ read_with o action result) none ∙ append-nil read)

-- the next dump, as the code finds it
pub read_at : (dumps : List (ℕ × ℕ)) (read seen : List (ℕ × ℕ × ℕ)) (dump : ℕ × ℕ) → seen ≡ read → length seen < length dumps → dump ≡ get_or dumps (length seen) dump → slice_get dumps (length read) ≡ Some dump
read_at dumps read seen dump same lt is = ap (λ (l : List (ℕ × ℕ × ℕ)). slice_get dumps (length l)) (sym same) ∙ slice_get-get_or dumps (length seen) dump lt ∙ ap Some (sym is)

-- it is not read with another action
pub read_other : (dumps : List (ℕ × ℕ)) (read : List (ℕ × ℕ × ℕ)) (action : ℕ) (result : ℕ → ℕ) (dump : ℕ × ℕ) → slice_get dumps (length read) ≡ Some dump → dump.0 ≢ action → read ≡ read ++ read_with (slice_get dumps (length read)) action result
read_other dumps read action result dump next off =
    sym (ap (λ (o : Option (ℕ × ℕ)). read ++ read_with o action result) next ∙ ap (λ (b : Bool). read ++ cond b (dump_now result dump ∷ []) []) (ne_eqb dump.0 action off) ∙ append-nil read)

-- and is with its own
pub read_now : (dumps : List (ℕ × ℕ)) (read new : List (ℕ × ℕ × ℕ)) (action value : ℕ) (result : ℕ → ℕ) (dump : ℕ × ℕ) → slice_get dumps (length read) ≡ Some dump → dump.0 ≡ action → value ≡ result dump.1 → new ≡ read ++ (dump.0, dump.1, value) ∷ [] → new ≡ read ++ read_with (slice_get dumps (length read)) action result
read_now dumps read new action value result dump next here is pushed =
    let found : new ≡ read ++ dump_now result dump ∷ [] = pushed ∙ ap (λ (v : ℕ). read ++ (dump.0, dump.1, v) ∷ []) is in
    found ∙ sym (ap (λ (o : Option (ℕ × ℕ)). read ++ read_with o action result) next ∙ ap (λ (b : Bool). read ++ cond b (dump_now result dump ∷ []) []) (eq-eqb dump.0 action here))

-- what holds of a list that was pushed to, where it was
pub on_ok : {T E : Type 0} (r : Result T E) (P Q : Type 0) → (P → Q) → OnOk r P → OnOk r Q
on_ok (Ok x) P Q f h = f h
on_ok (Err e) P Q f h = tt

-- one dump of those that are left
pub left_further : (dumps : List (ℕ × ℕ)) (read now all : List (ℕ × ℕ × ℕ)) (result : ℕ → ℕ) (dump : ℕ × ℕ) (value : ℕ) → length read < length dumps → dump ≡ get_or dumps (length read) dump → value ≡ result dump.1 → now ≡ read ++ (dump.0, dump.1, value) ∷ [] → read ++ read_left dumps read result ≡ all → now ++ read_left dumps now result ≡ all
left_further dumps read now all result dump value lt here is pushed old =
    let long : length now ≡ length read + 1 = (let l = ap length pushed in let sum = length-append read ((dump.0, dump.1, value) ∷ []) in omega (arith, l, sum)) in
    let same : now ≡ read ++ dump_now result dump ∷ [] = pushed ∙ ap (λ (v : ℕ). read ++ (dump.0, dump.1, v) ∷ []) is in
    let at : drop (length read) dumps ≡ dump ∷ drop (length read + 1) dumps = drop_more dumps (length read) dump lt ∙ ap (λ (x : ℕ × ℕ). x ∷ drop (length read + 1) dumps) (sym here) in
    ap (λ (l : List (ℕ × ℕ × ℕ)). l ++ map (dump_now result) (drop (length now) dumps)) same
    ∙ ap (λ (k : ℕ). (read ++ dump_now result dump ∷ []) ++ map (dump_now result) (drop k dumps)) long
    ∙ append_assoc read (dump_now result dump ∷ []) (map (dump_now result) (drop (length read + 1) dumps))
    ∙ ap (λ (l : List (ℕ × ℕ)). read ++ map (dump_now result) l) (sym at)
    ∙ old

-- ---- the dumps of all streams

-- one stream more
pub one_more : {X : Type 0} (f : ℕ → X) (n : ℕ) (all now : List X) (x : X) → all ≡ map f (range_with_len 1 n) → x ≡ f (n + 1) → now ≡ all ++ x ∷ [] → now ≡ map f (range_with_len 1 (n + 1))
one_more f n all now x old is pushed =
    pushed ∙ ap (λ l. l ++ x ∷ []) old ∙ ap (λ (y : _). map f (range_with_len 1 n) ++ y ∷ []) is ∙ sym (map-range_with_len_more f 1 n (n + 1) (omega arith))

-- the next of a row is the client of the stream that is next
pub next_client : (clients yielded rest left : List RunClientData) (client : RunClientData) (s : ℕ) → clients ≡ yielded ++ left → left ≡ client ∷ rest → s ≡ length yielded → (client_of_stream clients (s + 1) ≡ client) × (s < length clients)
next_client clients yielded rest left client s all is at =
    let whole : clients ≡ yielded ++ client ∷ rest = all ∙ ap (λ (l : List RunClientData). yielded ++ l) is in
    let next : s + 1 ≡ suc (length yielded) = omega (arith, at) in
    let long = ap length whole in
    let sum = length-append yielded (client ∷ rest) in
    (ap (client_of_stream clients) next ∙ ap (λ (l : List RunClientData). get_or l (length yielded) no_client) whole ∙ get_or-append_seam yielded client rest no_client, omega (arith, at, long, sum))
