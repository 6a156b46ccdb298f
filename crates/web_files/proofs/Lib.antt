mod OpenedPathLemmas
mod PiecesLemmas
