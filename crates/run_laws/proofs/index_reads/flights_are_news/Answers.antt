use Rattle.run_laws.proofs.index_reads.News.{flights_are_news, nothing_is_news}
use Rattle.run_laws.proofs.index_reads.flights_are_news.Goals as goal

pub returns : goal.returns
returns c = record { news = flights_are_news; nothing = nothing_is_news }
