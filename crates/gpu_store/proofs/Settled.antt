-- A canvas all of whose texels are written, and a rectangle drawn into it.
use Rattle.std.proofs.Common.{◌≡◌, ◌∙◌, ℕ, ◌-◌, ◌≤◌, List, ◌++◌, length, drop, take, replicate, sym, ap, subst, arith}
use Rattle.std.proofs.lemmas.List.{take_at, append-nil}
use Rattle.gpu_store.specs.declared.rect.Rect.{Rect}
use Rattle.gpu_store.specs.Rows.{IsDrawn, IsCanvas, canvas_texels}

-- what was written into the whole of a vector
abbrev kept : ℕ → List ℕ → List ℕ → List ℕ
kept n written items = take n (written ++ drop (length written) items)

-- a canvas of which each texel is written shows these
pub shows_all : (count : ℕ) (items : List ℕ) → count ≤ length items → canvas_texels count items ≡ items
shows_all count items all =
    let none : count - length items ≡ 0 = omega arith in
    ap (λ k. items ++ replicate k 0) none ∙ append-nil items

-- it is a canvas again after it was drawn upon
pub canvas_drawn : (count cap n : ℕ) (lent written items : List ℕ) → n ≡ count → length lent ≡ n → length written ≡ length lent → count ≤ cap
    → IsCanvas count cap (kept n written items)
canvas_drawn count cap n lent written items all long same room =
    let back : kept n written items ≡ written = take_at written (drop (length written) items) n (same ∙ long) in
    let full : length written ≡ count = same ∙ long ∙ all in
    subst (IsCanvas count cap) (sym back) record { within = omega (arith, full); room = room; blank = λ short. absurd (omega (arith, full, short)) }

-- and shows the rectangle
pub canvas_shows : (count n : ℕ) (lent written items before : List ℕ) (width : ℕ) (rect : Rect) (texel : List ℕ → ℕ → ℕ → ℕ) (first last : ℕ)
    → n ≡ count → length lent ≡ n → lent ≡ before
    → IsDrawn width rect (texel lent) first last lent written
    → IsDrawn width rect (texel before) first last before (canvas_texels count (kept n written items))
canvas_shows count n lent written items before width rect texel first last all long same drawn =
    let back : kept n written items ≡ written = take_at written (drop (length written) items) n (drawn.sized ∙ long) in
    let full : length written ≡ count = drawn.sized ∙ long ∙ all in
    let shown : canvas_texels count (kept n written items) ≡ written = ap (canvas_texels count) back ∙ shows_all count written (omega (arith, full)) in
    let Q : List ℕ → Type 0 = λ l. IsDrawn width rect (texel l) first last l (canvas_texels count (kept n written items)) in
    subst Q same (subst (IsDrawn width rect (texel lent) first last lent) (sym shown) drawn)
