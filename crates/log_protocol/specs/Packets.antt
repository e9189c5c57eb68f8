-- The packets of one log that its laws speak of. A packet that was sent stays in its list: it may come late, again or never.
use Rattle.std.specs.Prelude.{ℕ}

-- a Store: the fragment `index` of a segment, for the server `to` while its generation is `generation`
pub record StorePacket : Type 0 where
  pub to : ℕ
  pub name : ℕ
  pub index : ℕ
  pub generation : ℕ
  pub text : ℕ

-- a Stored: the server of member `index`, of that generation, holds its fragment
pub record StoredPacket : Type 0 where
  pub name : ℕ
  pub index : ℕ
  pub generation : ℕ

-- a Fragment, from any server: a fragment of the segment with this text
pub record FragmentPacket : Type 0 where
  pub name : ℕ
  pub text : ℕ

-- a Fenced: what the server `from`, of this generation, listed for the boot `incarnation` of the owner; `low` is the least horizon when it was sent
pub record FencedPacket : Type 0 where
  pub from : ℕ
  pub incarnation : ℕ
  pub generation : ℕ
  pub low : ℕ
  pub listed : ℕ → ℕ
