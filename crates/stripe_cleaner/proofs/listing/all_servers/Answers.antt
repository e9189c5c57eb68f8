use Rattle.std.proofs.Common.{◌+◌, ◌-◌, [], ◌∷◌, ◌++◌, map, sym, ap, ◌∙◌, append_assoc}
use Rattle.std.specs.List.{range_with_len}
use Rattle.stripe_cleaner.proofs.Loops.{servers_step}
use Rattle.stripe_cleaner.proofs.listing.all_servers.Goals as goal

pub loop-before-preserved : goal.loop-before-preserved
loop-before-preserved c =
    let i = c.loop-before.before in
    let n = c.args.servers in
    ap (λ front. front ++ map (λ before. before + 1) (range_with_len (i + 1) (n - (i + 1)))) c.in_ok-push.ensures.ok
    ∙ append_assoc c.loop-before.all ((i + 1) ∷ []) (map (λ before. before + 1) (range_with_len (i + 1) (n - (i + 1))))
    ∙ ap (λ rest. c.loop-before.all ++ rest) (sym (servers_step i n c.loop-before-test.true))
    ∙ c.loop-before.invariant
