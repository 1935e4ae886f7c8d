use Rattle.std.proofs.Common.{◌≡◌, sym, ap, subst, ◌∙◌, ◌++◌, ◌∷◌, [], length, map, get_or, take}
use Rattle.std.proofs.Math.Seq.{get_or-append_seam, take-append_seam}
use Rattle.named_lists.specs.Stacks.{AreStacksOf}
use Rattle.c_typing.proofs.ScopeLaws.{stacks-gone_on}
use Rattle.c_typing.proofs.inner_scopes.InnerScopes.go_on.Goals as goal

pub returns-in-Err-clause-unchanged : goal.returns-in-Err-clause-unchanged
returns-in-Err-clause-unchanged c =
    let items = c.self.inside.levels.items in
    c.truncate.ensures.items
    ∙ ap (take c.len-count.result) c.in_ok-push.ensures.items
    ∙ ap (λ n. take n (items ++ c.args.level ∷ [])) (c.len-count.ensures ∙ c.self.inside.levels.ok.0)
    ∙ take-append_seam items (c.args.level ∷ [])
    ∙ c.self.view_is

pub invariant_of-self : goal.invariant_of-self
invariant_of-self c =
    let s = c.self.inside in
    let same = c.in_err-push.ensures.items in (
      subst (λ ls. AreStacksOf (map (λ l. l.names) ls) s.names) (sym same) c.self.invariant.0,
      subst (λ ls. AreStacksOf (map (λ l. l.tags) ls) s.tags) (sym same) c.self.invariant.1,
    )

pub invariant_of-self-in-Ok : goal.invariant_of-self-in-Ok
invariant_of-self-in-Ok c =
    let s = c.self.inside in
    let count : c.len-count.result ≡ length s.levels.items = c.len-count.ensures ∙ s.levels.ok.0 in
    let level : c.index.result.now ≡ c.args.level =
    c.index.ensures
    ∙ ap (λ xs. get_or xs c.len-count.result c.index.result.now) c.in_ok-push.ensures.items
    ∙ ap (λ n. get_or (s.levels.items ++ c.args.level ∷ []) n c.index.result.now) count
    ∙ get_or-append_seam s.levels.items c.args.level [] c.index.result.now in
    let made = c.in_ok-push.ensures.items ∙ ap (λ l. s.levels.items ++ l ∷ []) (sym level) in (
      stacks-gone_on (λ l. l.names) s.levels.items c.push.new.self.items c.index.result.now s.names c.show.new.names made c.self.invariant.0
          c.in-Ok.ensures.names,
      stacks-gone_on (λ l. l.tags) s.levels.items c.push.new.self.items c.index.result.now s.tags c.show.new.tags made c.self.invariant.1 c.in-Ok.ensures.tags,
    )

pub invariant_of-self-in-Err : goal.invariant_of-self-in-Err
invariant_of-self-in-Err c =
    let s = c.self.inside in
    let back : c.truncate.new.self.items ≡ s.levels.items =
    c.truncate.ensures.items
    ∙ ap (take c.len-count.result) c.in_ok-push.ensures.items
    ∙ ap (λ n. take n (s.levels.items ++ c.args.level ∷ [])) (c.len-count.ensures ∙ s.levels.ok.0)
    ∙ take-append_seam s.levels.items (c.args.level ∷ []) in (
      c.in-Err.ensures.same_names (map (λ l. l.names) c.truncate.new.self.items)
          (subst (λ ls. AreStacksOf (map (λ l. l.names) ls) s.names) (sym back) c.self.invariant.0),
      c.in-Err.ensures.same_tags (map (λ l. l.tags) c.truncate.new.self.items)
          (subst (λ ls. AreStacksOf (map (λ l. l.tags) ls) s.tags) (sym back) c.self.invariant.1),
    )
