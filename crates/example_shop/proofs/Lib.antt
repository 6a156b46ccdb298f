-- Lemmas of the handler of items.
mod ItemLemmas
