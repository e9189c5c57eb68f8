use Rattle.std.proofs.Common.{◌≡◌, ◌++◌, ◌∷◌, [], OnOk, subst}
use Rattle.wire_msg.specs.declared.body.Body.TheVariants.{Welcome as Welcoming}
use Rattle.wire_msg.specs.declared.registry.Welcome.{Welcome}
use Rattle.node_base.specs.declared.effects.Effect.TheVariants.{Send}
use Rattle.registry_node.proofs.node.RegistryNode.say_welcome.Goals as goal

pub returns : goal.returns
returns c =
    let P : Welcome → Type 0 = λ w. OnOk c.send.result (c.send.new.self ≡ c.args.effects.now ++ Send c.args.from (Welcoming w) ∷ []) in
    subst P c.in_ok-welcome.ensures (subst P c.in_ok-of.ensures c.send.ensures)
