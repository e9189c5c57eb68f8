-- Each want of a client that serves is sent again at each tick.
use Rattle.client_node.specs.declared.client.Client.{Client}
use Rattle.headline.specs.Waits.{AsksAgain}

abbrev pub EachTickAsksAgain : Type 0
EachTickAsksAgain = (c : Client) → AsksAgain c
