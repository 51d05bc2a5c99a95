-- Lines stand where they are due in one way alone, and one line alone is the first that is off.
use Rattle.verify_input.proofs.Names.{◌≡◌, ◌⊎◌, inl, inr, ℕ, zero, suc, List, [], ◌∷◌, ◌++◌, drop, refl, sym, ap, subst, ◌∙◌, codes, PlansData, Event, hex8, number_text, view_text, sum_after, Due, Same, Dump, Look, LastLook, MayStand, AreTakenOff, IsOff, AreDue, IsMore, IsFirstOff, What}
use Rattle.gpu_word.proofs.Pieces.{five_pieces}
use Rattle.journal_text.proofs.Numerals.{number_cut}
use Rattle.verify_input.specs.declared.what.What.TheVariants as what

-- ---- the line of a look names its number of events

-- what stands after that number
abbrev sum_text : ℕ → List ℕ
sum_text sum = codes " " ++ (hex8 sum ++ codes "\n")

look_flat : (viewer events sum : ℕ) → view_text viewer events sum ≡ codes "view" ++ (number_text viewer ++ (number_text events ++ sum_text sum))
unfolding view_text
look_flat viewer events sum = five_pieces (codes "view") (number_text viewer) (number_text events) (codes " ") (hex8 sum) (codes "\n")

look_is_one : (viewer m n s t : ℕ) → view_text viewer m s ≡ view_text viewer n t → m ≡ n
look_is_one viewer m n s t e =
    let behind = ap (drop 4) (sym (look_flat viewer m s) ∙ e ∙ look_flat viewer n t) in
    let after = number_cut viewer viewer (number_text m ++ sum_text s) (number_text n ++ sum_text t) refl refl behind in
    (number_cut m n (sum_text s) (sum_text t) refl refl after.1).0

-- ---- lines that a history of some plans lets stand

module _ (p : PlansData) (h : List Event) where
  stands_in_one : (due : Due) (least : ℕ) (line : List ℕ) (m n : ℕ) → MayStand p h due least line m → MayStand p h due least line n → m ≡ n
  stands_in_one (Same part own) least line m n one other = one.1 ∙ sym other.1
  stands_in_one (Dump s dump) least line m n one other = one.3 ∙ sym other.3
  stands_in_one (Look viewer) least line m n one other = look_is_one viewer m n (sum_after p h m) (sum_after p h n) (sym one.2 ∙ other.2)
  stands_in_one (LastLook viewer) least line m n one other = one.1 ∙ sym other.1

  -- after lines that are due these others stand alone
  rest_is_one : (dues : List Due) (least : ℕ) (lines : List (List ℕ)) (m n : ℕ) (rest other : List (List ℕ)) → AreTakenOff p h dues least lines m rest → AreTakenOff p h dues least lines n other → rest ≡ other
  rest_is_one [] least lines m n rest other one two = one.1 ∙ sym two.1
  rest_is_one (due ∷ dues) least [] m n rest other one two = absurd one
  rest_is_one (due ∷ dues) least (line ∷ lines) m n rest other one two =
      let same = stands_in_one due least line one.0 two.0 one.1 two.1 in
      rest_is_one dues two.0 lines m n rest other (subst (λ (l : ℕ). AreTakenOff p h dues l lines m rest) same one.2) two.2

  -- lines that stand as they are due have none that is off
  pub off_not_taken : (dues : List Due) (least : ℕ) (lines : List (List ℕ)) (k : ℕ) (part : What) (n : ℕ) (rest : List (List ℕ)) → IsOff p h dues least lines k part → AreTakenOff p h dues least lines n rest → ⊥
  off_not_taken [] least lines k part n rest off taken = absurd off
  off_not_taken (due ∷ dues) least [] k part n rest off taken = absurd taken
  off_not_taken (due ∷ dues) least (line ∷ lines) zero part n rest off taken = off.1 taken.0 taken.1
  off_not_taken (due ∷ dues) least (line ∷ lines) (suc k) part n rest off taken =
      let same = stands_in_one due least line off.0 taken.0 off.1 taken.1 in
      off_not_taken dues taken.0 lines k part n rest (subst (λ (l : ℕ). IsOff p h dues l lines k part) same off.2) taken.2

  pub off_is_one : (dues : List Due) (least : ℕ) (lines : List (List ℕ)) (j k : ℕ) (a b : What) → IsOff p h dues least lines j a → IsOff p h dues least lines k b → (j ≡ k) × (a ≡ b)
  off_is_one [] least lines j k a b one other = absurd one
  off_is_one (due ∷ dues) least [] j k a b one other = (one.0 ∙ sym other.0, one.1 ∙ sym other.1)
  off_is_one (due ∷ dues) least (line ∷ lines) zero zero a b one other = (refl, one.0 ∙ sym other.0)
  off_is_one (due ∷ dues) least (line ∷ lines) zero (suc k) a b one other = absurd (one.1 other.0 other.1)
  off_is_one (due ∷ dues) least (line ∷ lines) (suc j) zero a b one other = absurd (other.1 one.0 one.1)
  off_is_one (due ∷ dues) least (line ∷ lines) (suc j) (suc k) a b one other =
      let same = stands_in_one due least line one.0 other.0 one.1 other.1 in
      let more = off_is_one dues other.0 lines j k a b (subst (λ (l : ℕ). IsOff p h dues l lines j a) same one.2) other.2 in
      (ap suc more.0, more.1)

  -- ---- the first line that is off, or more

  -- a line is more, or off
  more_or_off : (dues : List Due) (lines : List (List ℕ)) (k : ℕ) (part : What) → IsFirstOff p h dues lines k part → (IsMore p h dues lines k × (part ≡ what.More)) ⊎ IsOff p h dues 0 lines k part
  more_or_off dues lines k what.Name off = inr off
  more_or_off dues lines k what.Image off = inr off
  more_or_off dues lines k what.Stream off = inr off
  more_or_off dues lines k what.Mark off = inr off
  more_or_off dues lines k what.Dump off = inr off
  more_or_off dues lines k what.View off = inr off
  more_or_off dues lines k what.Missing off = inr off
  more_or_off dues lines k what.More more = inl (more, refl)

  off_not_more : (dues : List Due) (lines : List (List ℕ)) (j k : ℕ) (part : What) → IsOff p h dues 0 lines j part → IsMore p h dues lines k → ⊥
  off_not_more dues lines j k part off more = off_not_taken dues 0 lines j part more.then (more.line ∷ more.rest) off more.taken

  pub first_off_is_one : (dues : List Due) (lines : List (List ℕ)) (j k : ℕ) (a b : What) → IsFirstOff p h dues lines j a → IsFirstOff p h dues lines k b → (j ≡ k) × (a ≡ b)
  first_off_is_one dues lines j k a b one other = by (more_or_off dues lines j a one) (more_or_off dues lines k b other)
    where
      by : (IsMore p h dues lines j × (a ≡ what.More)) ⊎ IsOff p h dues 0 lines j a → (IsMore p h dues lines k × (b ≡ what.More)) ⊎ IsOff p h dues 0 lines k b → (j ≡ k) × (a ≡ b)
      by (inl one) (inl other) = (one.0.count ∙ sym other.0.count, one.1 ∙ sym other.1)
      by (inl one) (inr other) = absurd (off_not_more dues lines k j b other one.0)
      by (inr one) (inl other) = absurd (off_not_more dues lines j k a one other.0)
      by (inr one) (inr other) = off_is_one dues 0 lines j k a b one other

  pub off_not_due : (dues : List Due) (lines : List (List ℕ)) (k : ℕ) (part : What) → IsFirstOff p h dues lines k part → AreDue p h dues lines → ⊥
  off_not_due dues lines k part first due = by (more_or_off dues lines k part first)
    where
      by : (IsMore p h dues lines k × (part ≡ what.More)) ⊎ IsOff p h dues 0 lines k part → ⊥
      by (inl more) =
          let none : more.0.line ∷ more.0.rest ≡ [] = rest_is_one dues 0 lines more.0.then due.0 (more.0.line ∷ more.0.rest) [] more.0.taken due.1 in
          absurd (cc)
      by (inr off) = off_not_taken dues 0 lines k part due.0 [] off due.1
