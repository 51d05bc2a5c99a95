-- A script read line by line.
use Rattle.std.proofs.Common.{◌≡◌, ℕ, ◌+◌, true, false, List, [], ◌∷◌, map, Option, Result, Ok, Err, refl, sym, ◌∙◌}
use Rattle.script_lines.specs.Text.{words_of}
use Rattle.script_lines.specs.declared.fault.Kind.{Kind}
use Rattle.script_lines.specs.declared.fault.Kind.TheVariants.{Head}
use Rattle.script_lines.specs.declared.fault.ScriptFault.{ScriptFault}
use Rattle.script_lines.specs.declared.fault.ScriptFault.TheVariants as faults
use Rattle.script_lines.specs.Outcome.{FailsAt}
use Rattle.gpu_plan.specs.Plans.{PlansData}
use Rattle.gpu_plan.specs.Adding.{Draft}
use Rattle.gpu_cmd.specs.declared.name.Name.{Name}
use Rattle.gpu_plan.specs.Script.{is_skipped, version_of, numbered, plans_of, from_body, from_version, from_head}

module _ (version : ℕ) (names : List Name) where
  pub body_goes : (n : ℕ) (d next : Draft) (all rest : List (List ℕ)) (line : List ℕ) (total : Result PlansData (ℕ × Kind)) → all ≡ line ∷ rest → numbered version names n (words_of line) d ≡ Ok next
      → from_body version names n d (map words_of all) ≡ total → from_body version names (n + 1) next (map words_of rest) ≡ total
  unfolding from_body
  body_goes n d next all rest line total e h so_far =
      let one : from_body version names n d (map words_of all) ≡ from_body version names (n + 1) next (map words_of rest) = rw (e, h) refl in
      sym one ∙ so_far

  pub body_ends : (fault : ScriptFault) (n : ℕ) (d : Draft) (all rest : List (List ℕ)) (line : List ℕ) (total : Result PlansData (ℕ × Kind)) → all ≡ line ∷ rest → FailsAt fault (numbered version names n (words_of line) d)
      → from_body version names n d (map words_of all) ≡ total → FailsAt fault total
  unfolding from_body
  body_ends (faults.Memory refusal) n d all rest line total e h so_far = tt
  body_ends (faults.Refused at kind) n d all rest line total e h so_far =
      let one : from_body version names n d (map words_of all) ≡ Err (at, kind) = rw (e, h) refl in
      sym so_far ∙ one

  pub body_done : (n : ℕ) (d : Draft) (all : List (List ℕ)) (total : Result PlansData (ℕ × Kind)) → all ≡ [] → from_body version names n d (map words_of all) ≡ total → total ≡ Ok (plans_of version d)
  unfolding from_body
  body_done n d all total e so_far =
      let one : from_body version names n d (map words_of all) ≡ Ok (plans_of version d) = rw e refl in
      sym so_far ∙ one

pub head_skips : (n : ℕ) (all rest : List (List ℕ)) (line : List ℕ) (total : Result PlansData (ℕ × Kind)) → all ≡ line ∷ rest → is_skipped (words_of line) ≡ true
    → from_head n (map words_of all) ≡ total → from_head (n + 1) (map words_of rest) ≡ total
unfolding from_head
head_skips n all rest line total e h so_far =
    let one : from_head n (map words_of all) ≡ from_head (n + 1) (map words_of rest) = rw (e, h) refl in
    sym one ∙ so_far

pub head_there : (n : ℕ) (all rest : List (List ℕ)) (line : List ℕ) (version : Option ℕ) (total : Result PlansData (ℕ × Kind)) → all ≡ line ∷ rest → is_skipped (words_of line) ≡ false → version ≡ version_of (words_of line)
    → from_head n (map words_of all) ≡ total → from_version version n (map words_of rest) ≡ total
unfolding from_head
head_there n all rest line version total e h v so_far =
    let one : from_head n (map words_of all) ≡ from_version version n (map words_of rest) = rw (e, h, v) refl in
    sym one ∙ so_far

pub head_none : (n : ℕ) (all : List (List ℕ)) (total : Result PlansData (ℕ × Kind)) → all ≡ [] → from_head n (map words_of all) ≡ total → total ≡ Err (n, Head)
unfolding from_head
head_none n all total e so_far =
    let one : from_head n (map words_of all) ≡ Err (n, Head) = rw e refl in
    sym so_far ∙ one
