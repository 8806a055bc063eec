use Rattle.std.proofs.Common.{◌∙◌, ◌++◌, ◌∷◌, List, [], map, ap}
use Rattle.std.proofs.lemmas.List.{map-append}
use Rattle.thread_staff.specs.Watched.{watch_kept}
use Rattle.thread_staff.specs.Kept.{PostKept, post_kept}
use Rattle.thread_staff.specs.declared.post.Post.{Post}
use Rattle.thread_staff.proofs.Seated.{watched_same}
use Rattle.thread_staff.proofs.staff.Staff.add.Goals as goal

pub invariant_of-self-2 : goal.invariant_of-self-2
invariant_of-self-2 c =
    let same = c.push_reserved.ensures.items ∙ ap (λ (l : List Post). l ++ c.args.post ∷ []) c.in_ok-reserve.ensures.items in
    watched_same (watch_kept c.self.inside.watch) (map post_kept c.self.inside.posts.items) (map post_kept c.push_reserved.new.self.items) (post_kept c.args.post)
    (ap (λ (l : List Post). map post_kept l) same ∙ map-append post_kept c.self.inside.posts.items (c.args.post ∷ [])) c.requires c.self.invariant
