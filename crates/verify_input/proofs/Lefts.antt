-- What is left of the parts of an output, and the next lines of it.
use Rattle.verify_input.proofs.Names.{◌≡◌, ℕ, ◌+◌, ◌-◌, ◌<◌, ◌≤◌, List, suc, [], ◌∷◌, ◌++◌, map, drop, replicate, sym, ap, ◌∙◌, arith, flat_map, range_with_len, Pictures, Stands, PlansData, Event, streams_of, Due, Dump, Look, LastLook, same_lines, lines_of_image, dumps_due, looks_due}
use Rattle.verify_input.specs.declared.what.What.TheVariants as what
use Rattle.verify_input.proofs.Dues.{Begins, at_read, same_both}

-- ---- images

abbrev pub images_left : Pictures → ℕ → List Due
images_left images index = same_lines what.Image (flat_map lines_of_image (drop index images))

pub images_next : (images : Pictures) (index image : ℕ) (here : Stands images index image) {lines : List (List ℕ)} → lines ≡ lines_of_image (image, here.entry.1) → Begins (images_left images index) (same_lines what.Image lines) (images_left images (index + 1))
images_next images index image here are = record {
  is = ap (λ (entries : Pictures). same_lines what.Image (flat_map lines_of_image entries)) (at_read images index here.entry here.within (sym here.there)).is
      ∙ same_both what.Image (lines_of_image here.entry) (flat_map lines_of_image (drop (index + 1) images))
      ∙ ap (λ (lines : List (List ℕ)). same_lines what.Image lines ++ images_left images (index + 1)) (ap (λ (n : ℕ). lines_of_image (n, here.entry.1)) (sym here.same) ∙ sym are);
}

-- ---- dumps

abbrev pub dumps_left : ℕ → List (ℕ × ℕ) → ℕ → List Due
dumps_left s dumps index = map (λ dump. Dump s dump) (drop index dumps)

abbrev pub all_dumps_left : PlansData → List Event → ℕ → List Due
all_dumps_left p h index = flat_map (dumps_due p h) (drop index (streams_of p))

-- ---- looks

abbrev pub looks_left : ℕ → ℕ → List Due
looks_left viewer index = replicate (16 - index) (Look viewer) ++ LastLook viewer ∷ []

pub looks_next : (viewer index : ℕ) → index < 16 → Begins (looks_left viewer index) (Look viewer ∷ []) (looks_left viewer (index + 1))
looks_next viewer index more =
    let one : 16 - index ≡ suc (16 - (index + 1)) = omega arith in
    record { is = ap (λ n. replicate n (Look viewer) ++ LastLook viewer ∷ []) one }

pub looks_last : (viewer index : ℕ) → 16 ≤ index → Begins (looks_left viewer index) (LastLook viewer ∷ []) []
looks_last viewer index all =
    let none : 16 - index ≡ 0 = omega arith in
    record { is = ap (λ n. replicate n (Look viewer) ++ LastLook viewer ∷ []) none }

abbrev pub viewers_left : ℕ → ℕ → List Due
viewers_left viewers index = flat_map looks_due (drop index (range_with_len 1 viewers))
