use Rattle.std.proofs.Common.{◌≡◌, ℕ, [], ◌∷◌, ◌++◌, ap, subst, ◌∙◌}
use Rattle.gpu_store.specs.Sums.{texel_sum}
use Rattle.journal_verify.specs.Followed.{FollowedData, NotesSum}
use Rattle.journal_verify.proofs.Keeping.{noted_one}
use Rattle.journal_verify.proofs.followed.Followed.note.Goals as goal

pub returns : goal.returns
returns c =
    let inside = c.self.inside in
    let events = c.args.events in
    let old : FollowedData = record { judge = inside.judge; dumped = inside.dumped.items; sums = inside.sums.items } in
    let new : FollowedData = record { judge = inside.judge; dumped = inside.dumped.items; sums = c.push.new.self.items } in
    let sum : c.texel_sum-sum.result ≡ texel_sum old.judge.images = c.texel_sum-sum.ensures ∙ ap texel_sum c.images.ensures in
    let pushed : new.sums ≡ old.sums ++ (events, texel_sum old.judge.images) ∷ [] = c.in_ok-push.ensures.items ∙ ap (λ (n : ℕ). old.sums ++ (events, n) ∷ []) sum in
    subst (λ (f : FollowedData). NotesSum events f new) c.self.view_is (noted_one events old new (λ i. record old { sums = pushed i }))
