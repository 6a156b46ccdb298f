pub mod GatheredLinesLemmas
