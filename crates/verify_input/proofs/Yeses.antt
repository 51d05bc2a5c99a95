-- An input whose whole output is right has a right journal.
use Rattle.verify_input.proofs.Names.{◌≡◌, ℕ, Bool, true, false, cond, List, [], ◌∷◌, ◌++◌, map, refl, ap, ◌∙◌, ◌==◌, All, concat, All-nil, All-cons, All-head, All-tail, Pictures, PlansData, plan_of, streams_of, script_of, journal_head, name_text, before, journal_from, journal_part, script_part, head_of, IsRight, IsRightWhole, Journal}
use Rattle.verify_input.proofs.Labels.{Goes, head_goes, name_goes, all_lines}

heads_go : (p : PlansData) → All Goes (head_of p)
heads_go p = by (p.version == 2)
  where
    by : (b : Bool) → All Goes (cond b (journal_head ∷ map (λ s. name_text s (plan_of p s).name) (streams_of p)) [])
    by true = All-cons Goes journal_head _ head_goes (all_lines Goes (λ s. name_text s (plan_of p s).name) (λ s. name_goes s (plan_of p s).name) (streams_of p))
    by false = All-nil Goes

-- lines that go on stay before the end of a journal
before_more : (front rest : List (List ℕ)) → All Goes front → before Journal (front ++ rest) ≡ front ++ before Journal rest
before_more [] rest goes = refl
before_more (line ∷ front) rest goes = rw (All-head Goes line front goes) (ap (λ (ls : List (List ℕ)). line ∷ ls) (before_more front rest (All-tail Goes line front goes)))

-- so has any other with the same script and the same journal
pub right_so : (base : ℕ) (input short : List ℕ) (images : Pictures) (count : ℕ) → script_part short ≡ script_part input → journal_part short ≡ journal_part input → IsRightWhole input base images count → IsRight short images count
right_so base input short images count script journal right =
    let p = right.0 in
    let found = right.3 in
    let told = found.told in (
      p,
      right.1,
      record {
        script = ap (λ (ls : List (List ℕ)). script_of (concat ls)) script ∙ found.there.script;
        text = before Journal found.lines;
        there = journal ∙ ap journal_from found.there.there;
        told = record {
          lines = ap (before Journal) told.headed ∙ before_more (head_of p) told.rest (heads_go p) ∙ ap (λ (ls : List (List ℕ)). head_of p ++ ls) told.told;
          written = told.written;
        };
      },
      found.whole,
      right.5,
      right.6,
    )
