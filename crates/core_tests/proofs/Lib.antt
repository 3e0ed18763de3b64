pub mod ShortThreads
