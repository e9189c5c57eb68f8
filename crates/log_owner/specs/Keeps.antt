-- What no event of an opening takes back, and what a Welcome alone may change.
use Rattle.std.specs.Prelude.{◌≡◌, ◌⊎◌, ◌<◌, ◌≤◌, true, is_some, IfSome}
use Rattle.log_owner.specs.declared.opened.Progress.{Progress}
use Rattle.log_owner.specs.declared.opened.Progress.TheVariants as progress
use Rattle.log_owner.specs.declared.opening.Opening.{Opening}
use Rattle.log_owner.specs.declared.promised.Promised.{Promised}
use Rattle.log_owner.specs.Opening.{Went, is_meant, own_in}
use Rattle.log_owner.specs.Promised.{promised_of}
use Rattle.node_base.specs.declared.maps.Maps.{Maps}
use Rattle.node_base.specs.declared.questions.Questions.{Questions}
use Rattle.node_base.specs.Maps.{keeps}
use Rattle.wire_msg.specs.declared.body.Body.{Body}
use Rattle.wire_msg.specs.declared.body.Body.TheVariants as body
use Rattle.wire_msg.specs.declared.registry.Welcome.{Welcome}

-- newer maps, of as many servers, in which each group that was known has the same members
pub record AreNewer (known now : Maps) : Type 0 where
  pub later : known.version < now.version
  pub servers : now.servers ≡ known.servers
  pub groups : IfSome now.groups (λ groups. keeps known.groups groups ≡ true)

-- maps never go back: they are those that were known, or newer ones
abbrev pub MapsGoOn : Maps → Maps → Type 0
MapsGoOn known now = (now ≡ known) ⊎ AreNewer known now

-- the answer to the question that is out, to this incarnation, with maps that may be taken
abbrev pub IsAwaited : Opening → Welcome → Type 0
IsAwaited o w = (is_meant o.known w ≡ true) × (is_some (own_in o.stage w.ask) ≡ true)

-- what is promised stays, but for the Welcome that is awaited: from then on it is what that says of the slots
abbrev pub PromisesBy : Opening → Body → Promised → Type 0
PromisesBy o (body.Welcome w) now = (now ≡ o.known.promised) ⊎ (IsAwaited o w × (now ≡ promised_of w.news.slots))
PromisesBy o _ now = now ≡ o.known.promised

abbrev pub PromisesAsBefore : Opening → Promised → Type 0
PromisesAsBefore o now = now ≡ o.known.promised

-- this holds of the maps that are known and of what is promised, as long as the opening goes on, and once the log is open
abbrev pub Knows : (Maps → Promised → Type 0) → Progress → Type 0
Knows K (progress.Opening o) = K o.known.maps o.known.promised
Knows K (progress.Opened o) = K o.maps o.promised
Knows K (progress.Lost seg) = Unit {0}

-- the maps go on, what is promised is as it should be, and no number of a question comes back
pub record GoesOn (o : Opening) (q : Questions) (Promises : Promised → Type 0) (w : Went) : Type 0 where
  pub known : Knows (λ maps promised. MapsGoOn o.known.maps maps × Promises promised) w.progress
  pub asked : q.last ≤ w.questions.last
