-- What is shown of one kind of node, so that something stands at each moment of every run.

-- how it stands at the start, that it stays so while others have their turns, and what the node's own events make of it
pub record OfKind (Starts Stays Events : Type 0) : Type 0 where
  pub starts : Starts
  pub stays : Stays
  pub events : Events

-- the same, where nothing of it hangs on others
pub record OfOne (Starts Events : Type 0) : Type 0 where
  pub starts : Starts
  pub events : Events
