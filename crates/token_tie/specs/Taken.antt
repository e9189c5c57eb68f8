-- What it is for a client's tokens to take an input by steps of the abstract protocol.
use Rattle.std.specs.Prelude.{◌≡◌, ◌≤◌, ℕ, Bool, List, [], ◌∷◌}
use Rattle.token_client.specs.declared.output.Out.{Out}
use Rattle.token_client.specs.declared.output.Out.TheVariants.{Want, Gave, Supply, Flush, Read, Ready}
use Rattle.token_client.specs.Transition.{Done}
use Rattle.token_protocol.specs.Acts.{Act}
use Rattle.token_protocol.specs.Basics.{In}
use Rattle.token_protocol.specs.Client.{fresh}
use Rattle.token_protocol.specs.Packets as packets
use Rattle.token_protocol.specs.Step.{Steps}
use Rattle.token_protocol.specs.Told.{told}
use Rattle.token_protocol.specs.World.{World}
use Rattle.token_tie.specs.Seen.{Setting, Local, Shows, local_of}
use Rattle.xfs_base.specs.Modes.{mode_number}

-- the world, but for what a client's steps change
abbrev pub rest : World → World
rest w = record w { client = λ c. fresh 0; newest = 0; value_at = λ v. 0; writer = λ v. 0; last_writer = 0; wants = []; gaves = [] }

-- Only this client stepped: the manager, the logs and the other clients are as they were, and packets stay sent.
pub record ByClient (c : ℕ) (w v : World) : Type 0 where
  pub others : rest v ≡ rest w
  pub client : (d : ℕ) → (d ≡ c → ⊥) → v.client d ≡ w.client d
  pub wants : (p : packets.Want) → In p w.wants → In p v.wants
  pub gaves : (x : packets.Gave) → In x w.gaves → In x v.gaves

-- what is given of the block was sent there, with this end of the client's log
abbrev pub Said : Setting → ℕ → World → Out → Type 0
Said g end w (Want block req again mode) =
    block ≡ g.block → In (record { client = g.client; incarnation = g.incarnation; request = req; mode = mode_number mode; end = end }) w.wants
Said g end w (Gave block stamp) = block ≡ g.block → (stamp.epoch ≤ w.epoch) × In (record { client = g.client; stamp = stamp.turn; end = end }) w.gaves
Said g end w (Supply block ver value) = Unit {0}
Said g end w (Flush block) = Unit {0}
Said g end w (Read block place) = Unit {0}
Said g end w (Ready block) = Unit {0}

abbrev pub AllSaid : Setting → ℕ → World → List Out → Type 0
AllSaid g end w [] = Unit {0}
AllSaid g end w (o ∷ os) = Said g end w o × AllSaid g end w os

-- By steps of this client alone, which tell these acts of the block, the world becomes one in which what is known of the block, and what is given, is shown.
pub record Acts (logs : Bool) (g : Setting) (end : ℕ) (w : World) (acts : List Act) (l : Local) (outs : List Out) : Type 0 where
  pub world : World
  pub steps : Steps logs w world
  pub tells : told w world steps ≡ acts
  pub frame : ByClient g.client w world
  pub shows : Shows g w.epoch l (world.client g.client)
  pub said : AllSaid g end world outs

abbrev pub Acted : Bool → Setting → ℕ → World → List Act → Done → Type 0
Acted logs g end w acts d = Acts logs g end w acts (local_of d.state g.block) d.outs

abbrev pub Took : Bool → Setting → ℕ → World → Done → Type 0
Took logs g end w d = Acted logs g end w [] d
