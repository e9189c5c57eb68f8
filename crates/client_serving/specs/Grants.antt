-- What managers and other clients say of a block.
use Rattle.std.specs.Prelude.{ℕ, Bool, false, ◌==◌, ◌&&◌, List, [], ◌∷◌, Option, Some, None}
use Rattle.node_base.specs.declared.effects.Effect.{Effect}
use Rattle.node_base.specs.declared.effects.Effect.TheVariants.{Send}
use Rattle.token_client.specs.declared.output.Out.{Out}
use Rattle.token_client.specs.declared.output.Out.TheVariants as out
use Rattle.wire_msg.specs.declared.body.Body.TheVariants as body
use Rattle.wire_msg.specs.declared.tokens.Forward.{Forward}
use Rattle.xfs_base.specs.declared.node.NodeId.TheVariants as node
use Rattle.xfs_base.specs.declared.token.Stamp.{Stamp}

abbrev pub send_supply : Forward → Out → List Effect
send_supply f (out.Supply block ver value) =
    Send (node.Client f.to) (body.Supply (record { block = block; stamp = f.stamp; inc = f.inc; req = f.req; ver = ver; value = value })) ∷ []
send_supply f (out.Want block req again mode) = []
send_supply f (out.Gave block stamp) = []
send_supply f (out.Flush block) = []
send_supply f (out.Read block place) = []
send_supply f (out.Ready block) = []

abbrev pub is_stamp : Stamp → Stamp → Bool
is_stamp a b = (a.epoch == b.epoch) && (a.turn == b.turn)

abbrev pub is_want : Option ℕ → ℕ → Bool
is_want None req = false
is_want (Some asked) req = asked == req
