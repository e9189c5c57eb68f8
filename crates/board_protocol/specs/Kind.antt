-- The kinds of steps.

-- One kind for each constructor of `Step`.
pub data Kind : Type 0 where
  Offers : Kind
  Extends : Kind
  Ticks : Kind
  SendsInstall : Kind
  SendsAppend : Kind
  Prepares : Kind
  Promises : Kind
  LeadsWithOwn : Kind
  LeadsWithTheirs : Kind
  LeadsAgain : Kind
  Installs : Kind
  InstallsAgain : Kind
  Appends : Kind
  AppendsAgain : Kind
  Hears : Kind
  Stops : Kind
  Starts : Kind
