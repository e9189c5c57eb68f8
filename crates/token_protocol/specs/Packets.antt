-- The packets that speak of this block.
use Rattle.std.specs.Prelude.{ℕ}
use Rattle.token_protocol.specs.Entry.{Entry}

-- A client asks for a mode; `end` is the last filed segment of its log.
pub record Want : Type 0 where
  pub client : ℕ
  pub incarnation : ℕ
  pub request : ℕ
  pub mode : ℕ
  pub end : ℕ

-- An answer to a want: a Grant, or a Forward with the Supply that follows it. `stamp` is a turn of the reigning epoch.
pub record Offer : Type 0 where
  pub client : ℕ
  pub stamp : ℕ
  pub incarnation : ℕ
  pub request : ℕ
  pub mode : ℕ
  pub entry : Entry

-- The manager asks a client to give up all but the mode `keep`.
pub record Recall : Type 0 where
  pub client : ℕ
  pub stamp : ℕ
  pub keep : ℕ

-- A client has given up what the Recall with this stamp asked; `end` is the last filed segment of its log.
pub record Gave : Type 0 where
  pub client : ℕ
  pub stamp : ℕ
  pub end : ℕ

-- What a client held when it was asked by the manager of a later epoch.
pub record Report : Type 0 where
  pub client : ℕ
  pub epoch : ℕ
  pub mode : ℕ
  pub end : ℕ
