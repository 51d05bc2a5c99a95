-- What a stream at work has done after lines of its script.
use Rattle.std.proofs.Common.{◌≡◌, ℕ, ◌+◌, ◌-◌, ◌≤◌, ◌<◌, ◌^◌, true, List, [], ◌∷◌, ◌++◌, length, map, Some, refl, arith}
use Rattle.std.specs.Prelude.{codes, decimal}
use Rattle.std.specs.Fmt.{digits}
use Rattle.std.specs.List.{list_all}
use Rattle.script_lines.specs.Numbers.{number_said, decimal_of, value_of}
use Rattle.gpu_cmd.specs.declared.priority.Priority.{Priority}
use Rattle.gpu_plan.specs.declared.plan.Action.{Action}
use Rattle.gpu_plan.specs.declared.plan.Action.TheVariants.{Flush, Finish}
use Rattle.gpu_plan.specs.Plans.{PlanData}
use Rattle.gpu_plan.specs.Adding.{Draft, puts}
use Rattle.script_laws.proofs.Words.{is_word}
use Rattle.script_laws.proofs.Values.{hex, is_small}
use Rattle.script_laws.proofs.Taken.{Takes, takes_both}
use Rattle.script_laws.proofs.Lines.{at_work, is_open, puts_open, still_open, put_takes, fill_takes, flush_takes, finish_takes}
use Rattle.script_laws.proofs.RoundTexts.{line, round_of}

-- after a text a stream is at work, with at most this number of actions and flushes in all
pub record Works (done : List PlanData) (stream : ℕ) (priority : Priority) (d : Draft) (text : List ℕ) (most most_flushes : ℕ) : Type 0 where
  pub actions : List Action
  pub count : ℕ
  pub flushes : ℕ
  pub lasts : is_open actions
  pub few : count ≤ most
  pub fewer : flushes ≤ most_flushes
  pub takes : Takes d text (at_work done stream priority actions count flushes)

-- a place that a round speaks of in decimal digits
pub record Said (place : ℕ) : Type 0 where
  pub read : decimal_of (decimal place) ≡ Some place
  pub word : is_word (decimal place) ≡ true

pub zero_said : Said 0
unfolding number_said digits
zero_said = record { read = refl; word = refl }

pub half_said : Said 32
unfolding number_said digits
half_said = record { read = refl; word = refl }

module _ (done : List PlanData) (stream : ℕ) (priority : Priority) where
  -- a text that leads to another draft, and a work after that one
  pub works_behind : (d e : Draft) (s t : List ℕ) (b g : ℕ) → Takes d s e → Works done stream priority e t b g → Works done stream priority d (s ++ t) b g
  works_behind d e s t b g leads w = record {
    actions = w.actions;
    count = w.count;
    flushes = w.flushes;
    lasts = w.lasts;
    few = w.few;
    fewer = w.fewer;
    takes = takes_both d e (at_work done stream priority w.actions w.count w.flushes) s t leads w.takes;
  }

  pub works_on : (d : Draft) (s t : List ℕ) (a f b g : ℕ) → Works done stream priority d s a f
      → ((actions : List Action) (count flushes : ℕ) → is_open actions → count ≤ a → flushes ≤ f → Works done stream priority (at_work done stream priority actions count flushes) t b g) → Works done stream priority d (s ++ t) b g
  works_on d s t a f b g first next =
      works_behind d (at_work done stream priority first.actions first.count first.flushes) s t b g first.takes (next first.actions first.count first.flushes first.lasts first.few first.fewer)

  -- the same within wider limits
  pub widened : {d : Draft} {text : List ℕ} {a f b g : ℕ} → Works done stream priority d text a f → a ≤ b → f ≤ g → Works done stream priority d text b g
  widened w more more_flushes = record {
    actions = w.actions;
    count = w.count;
    flushes = w.flushes;
    lasts = w.lasts;
    few = omega (arith, w.few);
    fewer = omega (arith, w.fewer);
    takes = w.takes;
  }

  module _ (actions : List Action) (count flushes : ℕ) (lasts : is_open actions) where
    pub put_works : (place : ℕ) (values : List ℕ) → Said place → list_all is_small values ≡ true → 0 < length values → place + length values ≤ 64 → count + length values ≤ 1000000
        → Works done stream priority (at_work done stream priority actions count flushes) (line (codes "put") (decimal place ∷ map hex values)) (count + length values) flushes
    put_works place [] said small some fits few = absurd (omega arith)
    put_works place (value ∷ values) said small some fits few =
        let added = puts place (map value_of (map hex (value ∷ values))) in
        record {
          actions = actions ++ added;
          count = count + length (value ∷ values);
          flushes = flushes;
          lasts = still_open actions added lasts (puts_open place (map value_of (map hex (value ∷ values))));
          few = omega arith;
          fewer = omega arith;
          takes = put_takes done stream priority actions count flushes lasts place value values said.read said.word small fits few;
        }

    pub fill_works : (value : ℕ) → value < 2 ^ 32 → count + 1 ≤ 1000000
        → Works done stream priority (at_work done stream priority actions count flushes) (line (codes "fill") (codes "0" ∷ codes "0" ∷ hex value ∷ [])) (count + 1) flushes
    fill_works value small few = record {
      actions = actions ++ puts 64 (value_of (hex value) ∷ []);
      count = count + 1;
      flushes = flushes;
      lasts = still_open actions (puts 64 (value_of (hex value) ∷ [])) lasts refl;
      few = omega arith;
      fewer = omega arith;
      takes = fill_takes done stream priority actions count flushes lasts value small few;
    }

    pub flush_works : (put : ℕ) → Said put → count + 1 ≤ 1000000 → flushes + 1 ≤ 100000
        → Works done stream priority (at_work done stream priority actions count flushes) (line (codes "flush") (decimal put ∷ [])) (count + 1) (flushes + 1)
    flush_works put said few fewer = record {
      actions = actions ++ Flush put [] ∷ [];
      count = count + 1;
      flushes = flushes + 1;
      lasts = still_open actions (Flush put [] ∷ []) lasts refl;
      few = omega arith;
      fewer = omega arith;
      takes = flush_takes done stream priority actions count flushes lasts put said.read said.word few fewer;
    }

    pub finish_works : count + 1 ≤ 1000000 → Works done stream priority (at_work done stream priority actions count flushes) (line (codes "finish") []) (count + 1) flushes
    finish_works few = record {
      actions = actions ++ Finish ∷ [];
      count = count + 1;
      flushes = flushes;
      lasts = still_open actions (Finish ∷ []) lasts refl;
      few = omega arith;
      fewer = omega arith;
      takes = finish_takes done stream priority actions count flushes lasts few;
    }

  -- ---- a round

  module _ (base : ℕ) (words : List ℕ) (uploaded : ℕ) (said : Said base) (left : Said (32 - base)) (low : base ≤ 32) (many : length words ≡ 32) (small : list_all is_small words ≡ true) (fits : uploaded < 2 ^ 32) where
    pub round_works : (actions : List Action) (count flushes : ℕ) → is_open actions → count + 35 ≤ 1000000 → flushes + 1 ≤ 100000
        → Works done stream priority (at_work done stream priority actions count flushes) (round_of base words uploaded) (count + 35) (flushes + 1)
    round_works actions count flushes lasts few fewer =
        works_on (at_work done stream priority actions count flushes) (line (codes "put") (decimal base ∷ map hex words)) _ (count + length words) flushes (count + 35) (flushes + 1) (put_works actions count flushes lasts base words said small (omega arith) (omega arith) (omega arith))
        (λ actions₁ count₁ flushes₁ lasts₁ few₁ fewer₁.
        works_on (at_work done stream priority actions₁ count₁ flushes₁) (line (codes "fill") (codes "0" ∷ codes "0" ∷ hex uploaded ∷ [])) _ (count₁ + 1) flushes₁ (count + 35) (flushes + 1) (fill_works actions₁ count₁ flushes₁ lasts₁ uploaded fits (omega arith))
        (λ actions₂ count₂ flushes₂ lasts₂ few₂ fewer₂.
        works_on (at_work done stream priority actions₂ count₂ flushes₂) (line (codes "flush") (decimal (32 - base) ∷ [])) _ (count₂ + 1) (flushes₂ + 1) (count + 35) (flushes + 1) (flush_works actions₂ count₂ flushes₂ lasts₂ (32 - base) left (omega arith) (omega arith))
        (λ actions₃ count₃ flushes₃ lasts₃ few₃ fewer₃. widened (finish_works actions₃ count₃ flushes₃ lasts₃ (omega arith)) (omega arith) (omega arith))))
