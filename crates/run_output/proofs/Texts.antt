-- The texts of the parts of the output.
use Rattle.std.proofs.Common.{◌≡◌, ℕ, zero, suc, List, [], ◌∷◌, ◌++◌, ◌+◌, ◌<◌, Option, map, length, get_or, sym, ap, ◌∙◌, refl, arith, append_assoc}
use Rattle.std.proofs.lemmas.Bool.{ne_eqb}
use Rattle.std.specs.Prelude.{◌≢◌, slice_index_or, Vec}
use Rattle.std.specs.declared.alloc.Global.{Global}
use Rattle.std.specs.List.{concat, flat_map, range_with_len}
use Rattle.std.proofs.lemmas.List.{get_or-map, length-map, append-nil}
use Rattle.std.proofs.lemmas.List.Folds.{flat_map-map}
use Rattle.std.proofs.lemmas.List.FromFn.{length-range_with_len}
use Rattle.gpu_store.specs.Picture.{Picture}
use Rattle.gpu_store.specs.Images.{Pictures, picture_of}
use Rattle.gpu_store.proofs.Lookups.{Stands}
use Rattle.gpu_journal.specs.Dumps.{dumps_of}
use Rattle.journal_text.specs.Picture.{image_text, picture_text}
use Rattle.gpu_run.specs.Dumps.{dump_read, dumps_read, all_dumps}
use Rattle.gpu_plan.specs.Plans.{PlansData}
use Rattle.live_view.specs.declared.look.Look.{Look}
use Rattle.wait_hooks.specs.Marks.{mark}
use Rattle.gpu_journal.specs.declared.event.Event.{Event}
use Rattle.gpu_journal.specs.Ended.{streams_of}
use Rattle.journal_text.specs.Output.{head_lines, output, dump_line, dump_lines}
use Rattle.run_output.specs.declared.output.Section.{Section}
use Rattle.run_output.specs.declared.output.Section.TheVariants.{Names, Journal, Images, Streams, Marks, Dumps, Looks}
use Rattle.run_output.specs.Runs.{OutputData, section_text, behind_text, run_text}
use Rattle.journal_text.specs.Parts.{heads, image_lines}
use Rattle.journal_text.proofs.Parts.{concat-map, names_text, image_whole}
use Rattle.run_output.specs.Parts.{dump_read_text, dump_texts, look_text, view_texts}

pub head_text : (p : PlansData) → p.version ≡ 2 → concat (heads p) ≡ head_lines p
head_text p two = rw two (names_text p)

pub no_head : (p : PlansData) → p.version ≢ 2 → head_lines p ≡ []
no_head p other = rw (ne_eqb p.version 2 other) refl

-- ---- images

no_entry : ℕ × Picture
no_entry = (0, record { width = 0; height = 0; texels = [] })

-- the lines of the image at a place in the order are the text of what stands there
pub image_shown : (images : Pictures) (index image : ℕ) → Stands images index image → concat (image_lines image (picture_of images image)) ≡ slice_index_or (map image_text images) index []
image_shown images index image stands =
    ap (λ (o : Option Picture). concat (image_lines image o)) stands.shown
    ∙ image_whole (image, stands.entry.1)
    ∙ ap (λ n. image_text (n, stands.entry.1)) stands.same
    ∙ ap image_text (sym stands.there)
    ∙ sym (get_or-map image_text images index _ [] stands.within)

pub images_text : (images : Pictures) → concat (map image_text images) ≡ picture_text images
unfolding picture_text
images_text images = concat-map image_text images

-- ---- dumps

pub length-dump_texts : (s : ℕ) (dumps : List (List (ℕ × ℕ × ℕ))) → length (dump_texts s dumps) ≡ length dumps
length-dump_texts s [] = refl
length-dump_texts s (own ∷ more) = ap suc (length-dump_texts (s + 1) more)

pub dumps_at : (s : ℕ) (dumps : List (List (ℕ × ℕ × ℕ))) (i : ℕ) (d : List (ℕ × ℕ × ℕ)) → i < length dumps → slice_index_or (dump_texts s dumps) i [] ≡ flat_map (dump_read_text (i + s)) (get_or dumps i d)
dumps_at s [] i d lt = absurd (omega arith)
dumps_at s (own ∷ more) zero d lt = ap (λ n. flat_map (dump_read_text n) own) (omega arith)
dumps_at s (own ∷ more) (suc i) d lt =
    let next : i + (s + 1) ≡ suc i + s = omega arith in
    dumps_at (s + 1) more i d (omega arith) ∙ ap (λ n. flat_map (dump_read_text n) (get_or more i d)) next

-- what the clients of n streams from s on have read, as text
dumps_from : (p : PlansData) (h : List Event) (s n : ℕ) → concat (dump_texts s (map (dumps_read p h) (range_with_len s n))) ≡ flat_map (λ t. flat_map (dump_line p h t) (dumps_of p h t)) (range_with_len s n)
dumps_from p h s zero = refl
dumps_from p h s (suc n) =
    ap (λ (r : List ℕ). flat_map (dump_read_text s) (dumps_read p h s) ++ r) (dumps_from p h (s + 1) n)
    ∙ ap (λ (r : List ℕ). r ++ flat_map (λ t. flat_map (dump_line p h t) (dumps_of p h t)) (range_with_len (s + 1) n)) (flat_map-map (dump_read_text s) (dump_read p h s) (dumps_of p h s))

pub dumps_text : (p : PlansData) (h : List Event) → concat (dump_texts 1 (all_dumps p h)) ≡ dump_lines p h
unfolding dump_lines
dumps_text p h = dumps_from p h 1 (length p.plans)

pub length_all_dumps : (p : PlansData) (h : List Event) → length (all_dumps p h) ≡ length p.plans
length_all_dumps p h = length-map (streams_of p) (dumps_read p h) ∙ length-range_with_len 1 (length p.plans)

-- ---- looks

pub length-view_texts : (v : ℕ) (looks : List (Vec Look Global)) → length (view_texts v looks) ≡ length looks
length-view_texts v [] = refl
length-view_texts v (own ∷ more) = ap suc (length-view_texts (v + 1) more)

pub looks_at : (v : ℕ) (looks : List (Vec Look Global)) (i : ℕ) (d : Vec Look Global) → i < length looks → slice_index_or (view_texts v looks) i [] ≡ flat_map (look_text (i + v)) (get_or looks i d).items
looks_at v [] i d lt = absurd (omega arith)
looks_at v (own ∷ more) zero d lt = ap (λ n. flat_map (look_text n) own.items) (omega arith)
looks_at v (own ∷ more) (suc i) d lt =
    let next : i + (v + 1) ≡ suc i + v = omega arith in
    looks_at (v + 1) more i d (omega arith) ∙ ap (λ n. flat_map (look_text n) (get_or more i d).items) next

-- ---- the whole output

-- where the dumps are those that the run on one thread reads, and nobody has looked, the whole output has the lines of the dumps after it
pub serial_text : (run : OutputData) → run.dumps ≡ all_dumps run.report.plans run.report.past → run.looks ≡ [] → run_text run ≡ output run.report.plans (mark run.report.base) run.report.past ++ dump_lines run.report.plans run.report.past
serial_text run are none =
    ap (λ (d : List (List (ℕ × ℕ × ℕ))). output run.report.plans (mark run.report.base) run.report.past ++ behind_text d run.looks) are
    ∙ ap (λ (l : List (Vec Look Global)). output run.report.plans (mark run.report.base) run.report.past ++ behind_text (all_dumps run.report.plans run.report.past) l) none
    ∙ ap (λ (r : List ℕ). output run.report.plans (mark run.report.base) run.report.past ++ r) (append-nil (concat (dump_texts 1 (all_dumps run.report.plans run.report.past))) ∙ dumps_text run.report.plans run.report.past)

-- ---- sections

-- in their order
abbrev pub sections : List Section
sections = Names ∷ Journal ∷ Images ∷ Streams ∷ Marks ∷ Dumps ∷ Looks ∷ []

abbrev pub section_texts : OutputData → List (List ℕ)
section_texts run = map (section_text run) sections

pub section_at : (run : OutputData) (i : ℕ) (d : Section) → i < 7 → section_text run (get_or sections i d) ≡ slice_index_or (section_texts run) i []
section_at run i d lt = sym (get_or-map (section_text run) sections i d [] lt)

joined : (a b c d e f g : List ℕ) → a ++ (b ++ (c ++ (d ++ (e ++ (f ++ (g ++ [])))))) ≡ a ++ b ++ c ++ d ++ e ++ (f ++ g)
joined a b c d e f g =
    ap (λ (r : List ℕ). a ++ (b ++ (c ++ (d ++ (e ++ (f ++ r)))))) (append-nil g)
    ∙ sym (append_assoc (a ++ b ++ c ++ d) e (f ++ g)
    ∙ append_assoc (a ++ b ++ c) d (e ++ (f ++ g))
    ∙ append_assoc (a ++ b) c (d ++ (e ++ (f ++ g)))
    ∙ append_assoc a b (c ++ (d ++ (e ++ (f ++ g)))))

-- all sections are the output and the lines after it
pub sections_text : (run : OutputData) → concat (section_texts run) ≡ run_text run
unfolding output
sections_text run =
    joined (section_text run Names) (section_text run Journal) (section_text run Images) (section_text run Streams) (section_text run Marks) (section_text run Dumps) (section_text run Looks)
