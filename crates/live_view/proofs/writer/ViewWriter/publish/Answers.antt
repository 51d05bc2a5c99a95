use Rattle.std.proofs.Common.{◌≡◌, inr, List, [], ◌∷◌, ◌++◌, length, drop, ap, sym, ◌∙◌, subst}
use Rattle.gpu_store.specs.declared.op.Op.{Op}
use Rattle.live_view.specs.declared.version.Version.{Version}
use Rattle.live_view.specs.declared.shown.Shown.{Shown}
use Rattle.live_view.specs.Versions.{IsLatest, version, images_drawn}
use Rattle.live_view.specs.Fronts.{FrontData}
use Rattle.live_view.specs.Copies.{published, steps_pending}
use Rattle.live_view.specs.Steps.{ops_of}
use Rattle.live_view.specs.Rule.{IsLast, IsBegun}
use Rattle.live_view.specs.Seen.{WriterData, IsViewWriter}
use Rattle.live_view.proofs.Stepping.{whole, last_push, begun_self, begun_next, all_handed, drop_push, drop_whole, on_ok, on_err, in_both, both_ok, three_err}
use Rattle.live_view.proofs.writer.ViewWriter.publish.Goals as goal
use Rattle.live_view.proofs.writer.ViewWriter.publish.Given.{Over}

pub add-requires : goal.add-requires
add-requires g c =
    let asked = subst (λ (w : WriterData). IsLatest (w.versions ++ w.tried) c.args.events) (sym c.self.view_is) c.requires in
    subst (λ (l : List Version). IsLatest l c.args.events) (whole (published c.self.inside.copies).front.versions c.self.inside.roll.versions c.self.invariant.begun.longer) asked

pub end_version-requires-clause-last : goal.end_version-requires-clause-last
end_version-requires-clause-last g c =
    let roll : List Version = c.self.inside.roll.versions in
    let v : Version = version (images_drawn (published c.hand_over.new.copies).version.images (ops_of (steps_pending c.hand_over.new.copies))) c.args.events in
    let added : c.add.new.self.versions ≡ roll ++ v ∷ [] = c.if-not-add.ensures.added in
    let front = c.again-front.ensures ∙ c.front.ensures in
    subst (λ (l : List Version). IsLast v l) (sym (ap (λ (f : FrontData). f.versions) front ∙ added)) (last_push roll v)

pub end_version-requires-clause-begun : goal.end_version-requires-clause-begun
end_version-requires-clause-begun g c =
    let v : Version = version (images_drawn (published c.hand_over.new.copies).version.images (ops_of (steps_pending c.hand_over.new.copies))) c.args.events in
    let front = c.again-front.ensures ∙ c.front.ensures in
    begun_next (published c.self.inside.copies) (published c.hand_over.new.copies) c.self.inside.roll c.again-front.result v c.hand_over.ensures.published c.self.invariant.begun
    (ap (λ (f : FrontData). f.view) front ∙ c.if-not-add.ensures.view) (ap (λ (f : FrontData). f.versions) front ∙ c.if-not-add.ensures.added)

-- ---- where the version was ended

module _ (g : Over) (c : goal.After-end_version g) where
  -- what was published before, the versions with those that were tried, and the operations that were noted
  abbrev old : Shown
  old = published c.self.inside.copies

  abbrev roll : List Version
  roll = c.self.inside.roll.versions

  abbrev noted : List Op
  noted = ops_of (steps_pending c.self.inside.copies) ++ c.self.inside.waiting.items

  -- the version that was added is the next one
  abbrev new : Version
  new = version (images_drawn (published c.hand_over.new.copies).version.images (ops_of (steps_pending c.hand_over.new.copies))) c.args.events

  next : new ≡ version (images_drawn old.version.images noted) c.args.events
  next =
      let steps = steps_pending c.hand_over.new.copies in
      ap (λ (s : Shown). version (images_drawn s.version.images (ops_of steps)) c.args.events) c.hand_over.ensures.published
      ∙ ap (λ (ops : List Op). version (images_drawn old.version.images ops) c.args.events) (all_handed steps c.hand_over.new.waiting.items noted c.hand_over.ensures.noted c.in_ok-hand_over.ensures.all)

  front : c.again-front.result ≡ c.add.new.self
  front = c.again-front.ensures ∙ c.front.ensures

  listed : c.again-front.result.versions ≡ roll ++ new ∷ []
  listed = ap (λ (f : FrontData). f.versions) front ∙ c.if-not-add.ensures.added

pub invariant_of-self-2 : goal.invariant_of-self-2
invariant_of-self-2 g c =
    let now = published c.end_version.new.copies in
    let last : IsLast (new g c) c.again-front.result.versions = subst (λ (l : List Version). IsLast (new g c) l) (sym (listed g c)) (last_push (roll g c) (new g c)) in
    in_both c.end_version.result c.end_version.ensures.published
    (λ ended. subst (λ (s : Shown). IsViewWriter s c.add.new.self) (sym ended) (record { last = last; begun = subst (λ (f : FrontData). IsBegun c.again-front.result f) (front g c) (begun_self c.again-front.result) }))
    (λ same. let stays : now ≡ old g c = same ∙ c.hand_over.ensures.published in
    record {
      last = subst (λ (s : Shown). IsLast s.version s.front.versions) (sym stays) c.self.invariant.last;
      begun = begun_next (old g c) now c.self.inside.roll c.add.new.self (new g c) stays c.self.invariant.begun c.if-not-add.ensures.view c.if-not-add.ensures.added;
    })

pub returns-clause-versions : goal.returns-clause-versions
returns-clause-versions g c =
    let all = listed g c
    ∙ ap (λ (w : Version). roll g c ++ w ∷ []) (next g c)
    ∙ ap (λ (l : List Version). l ++ version (images_drawn (old g c).version.images (noted g c)) c.args.events ∷ []) (sym (whole (old g c).front.versions (roll g c) c.self.invariant.begun.longer)) in
    rw (← c.self.view_is) (on_ok _ c.end_version.result c.end_version.ensures.published (λ ended. ap (λ (s : Shown). s.front.versions) ended ∙ all))

pub returns-clause-images : goal.returns-clause-images
returns-clause-images g c = rw (← c.self.view_is) (on_ok _ c.end_version.result c.end_version.ensures.published (λ ended. ap (λ (s : Shown). s.version.images) ended ∙ ap (λ (w : Version). w.images) (next g c)))

pub returns-clause-handed : goal.returns-clause-handed
returns-clause-handed g c =
    both_ok _ _ c.end_version.result
    (on_ok _ c.end_version.result c.end_version.ensures.pending (λ none. ap (λ (ops : List Op). ops ++ c.hand_over.new.waiting.items) none ∙ c.in_ok-hand_over.ensures.all))
    (on_ok _ c.end_version.result c.end_version.ensures.published (λ ended. drop_whole (published c.end_version.new.copies).front.versions c.add.new.self.versions (ap (λ (s : Shown). s.front.versions) ended ∙ ap (λ (f : FrontData). f.versions) (front g c))))

pub returns-clause-kept : goal.returns-clause-kept
returns-clause-kept g c =
    rw (← c.self.view_is) (three_err _ _ _ c.end_version.result
    (on_err _ c.end_version.result c.end_version.ensures.published (λ same. ap (λ (s : Shown). s.front.versions) (same ∙ c.hand_over.ensures.published)))
    (on_err _ c.end_version.result c.end_version.ensures.published (λ same. ap (λ (s : Shown). s.version.images) (same ∙ c.hand_over.ensures.published)))
    (on_err _ c.end_version.result c.end_version.ensures.pending (λ same. ap (λ (ops : List Op). ops ++ c.hand_over.new.waiting.items) same ∙ c.hand_over.ensures.noted)))

pub returns-clause-tried : goal.returns-clause-tried
returns-clause-tried g c =
    rw (← c.self.view_is) (on_err _ c.end_version.result c.end_version.ensures.published (λ same.
    inr (ap (λ (s : Shown). drop (length s.front.versions) c.add.new.self.versions) (same ∙ c.hand_over.ensures.published)
    ∙ ap (drop (length (old g c).front.versions)) c.if-not-add.ensures.added
    ∙ drop_push (old g c).front.versions (roll g c) _ c.self.invariant.begun.longer
    ∙ ap (λ (w : Version). drop (length (old g c).front.versions) (roll g c) ++ w ∷ []) (next g c))))
