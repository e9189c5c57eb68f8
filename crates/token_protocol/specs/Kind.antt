-- The kinds of steps.

-- One kind for each constructor of `Step`.
pub data Kind : Type 0 where
  Asks : Kind
  AsksAgain : Kind
  DropsWant : Kind
  DropsFetch : Kind
  Offers : Kind
  Recalls : Kind
  WritesFirst : Kind
  Declines : Kind
  TakesAbsent : Kind
  TakesSupply : Kind
  TakesPlace : Kind
  Fetches : Kind
  Writes : Kind
  Reads : Kind
  Syncs : Kind
  Evicts : Kind
  Gives : Kind
  GivesAgain : Kind
  Notes : Kind
  Applies : Kind
  Turns : Kind
  SealsWith : Kind
  Seals : Kind
  Settles : Kind
  CrashesDirty : Kind
  CrashesClean : Kind
  RestartsAdopting : Kind
  RestartsDiscarding : Kind
  Promises : Kind
  Reports : Kind
  Activates : Kind
  SealsCopy : Kind
  SealsOther : Kind
  SettlesCopy : Kind
  DiscardsCopy : Kind
  Loses : Kind
